-- How many walk actions want each value, and the lowest that wants one off its walk.
-- Assumes nothing.
use Rattle.std.specs.Prelude.{ℕ, ◌+◌, ◌*◌, ◌<◌, ◌≡◌, ◌≢◌, Bool, false, ◌&&◌, ◌||◌, List, [], ◌∷◌, eqb, length, get_or, Result, Ok, Err}
use Rattle.ranks.specs.Ranks.{one}
use Rattle.study.specs.Study.{Condition, Study, condition_at}
use Rattle.lawful.specs.Lawful.{Lawful}
use Rattle.tables.specs.Tables.{HoldsConditions}
use Rattle.walks.specs.Walks.{Met, conditions_of}
use Rattle.planning.specs.Planning.{LowestOff}
use Rattle.tracing.specs.Steps.{Members}
use Rattle.wanting.specs.declared.Off.{Off}

-- among the conditions is u = q
unfoldable pub wants : List Condition → ℕ → ℕ → Bool
wants [] u q = false
wants (c ∷ rest) u q = (eqb c.var u && eqb c.value q) || wants rest u q

-- how many actions of the list want u = q
unfoldable pub wanted : Study → List ℕ → ℕ → ℕ → ℕ
wanted t [] u q = 0
wanted t (i ∷ rest) u q = one (wants (conditions_of t i) u q) + wanted t rest u q

-- the table of wants holds the counts of a list of actions
abbrev pub Counts : Study → List ℕ → List ℕ → Type 0
Counts t list table = (u q : ℕ) → u < 32 → q < 16 → get_or table (16 * u + q) 0 ≡ wanted t list u q

-- the conditions of action i of a lawful study stand in the file from a place on
pub record StandAt (file : List ℕ) (place many : ℕ) (t : Study) (i : ℕ) : Type 0 where
  pub lawful : Lawful t
  pub there : i < length t.actions
  pub holds : HoldsConditions file place many (conditions_of t i)

-- the step at the value of condition k
abbrev pub step_at : List Condition → List ℕ → ℕ → ℕ
step_at cs steps k = get_or steps (16 * (condition_at cs k).var + (condition_at cs k).value) 0

-- the first n conditions have a step
abbrev pub HaveSteps : List Condition → List ℕ → ℕ → Type 0
HaveSteps cs steps n = (k : ℕ) → k < n → step_at cs steps k ≢ 0

-- the first condition with no step is on u
pub record FirstOff (cs : List Condition) (steps : List ℕ) (u : ℕ) : Type 0 where
  pub at : ℕ
  pub there : at < length cs
  pub var : (condition_at cs at).var ≡ u
  pub off : step_at cs steps at ≡ 0
  pub before : HaveSteps cs steps at

-- the table counts one more for each value that the conditions want
abbrev pub Raised : List Condition → List ℕ → List ℕ → Type 0
Raised cs table table' =
    (u q : ℕ) → u < 32 → q < 16 → get_or table' (16 * u + q) 0 ≡ get_or table (16 * u + q) 0 + one (wants cs u q)

abbrev pub WantsEach : List Condition → List ℕ → List ℕ → List ℕ → Result (Unit {0}) ℕ → Type 0
WantsEach cs steps table table' (Ok tt) = HaveSteps cs steps (length cs) × Raised cs table table'
WantsEach cs steps table table' (Err u) = FirstOff cs steps u

abbrev pub WantsAll : Study → List ℕ → Result (Unit {0}) Off → Type 0
WantsAll t table (Ok tt) = Met t × ((list : List ℕ) → Members t list → Counts t list table)
WantsAll t table (Err o) = LowestOff t o.action o.var
