-- Why a variable has no walk: traced back from its goal, the value that is not the start and that no action in force sets; or that the trace comes round, back to a value that it has passed without meeting the start.
-- Assumes nothing.
use Rattle.std.specs.Prelude.{ℕ, ◌≡◌, ◌≢◌, List, ◌∷◌}
use Rattle.study.specs.Study.{Study}
use Rattle.plans.specs.Plans.{Usable}
use Rattle.orders.specs.Orders.{In}
use Rattle.walks.specs.Walks.{var_of, post_of, start_of, goal_of, Leads}

-- a trace from one value back to another: the actions passed lead on from there, and none sets the start, where the trace would have ended
pub record Trail (t : Study) (v p : ℕ) (passed : List ℕ) (q : ℕ) : Type 0 where
  pub leads : Leads t v p passed q
  pub new : (i : ℕ) → In i passed → post_of t i ≢ start_of t v

-- .. and from the goal
abbrev pub Back : Study → ℕ → ℕ → List ℕ → Type 0
Back t v p passed = Trail t v p passed (goal_of t v)

-- no action in force sets the variable to the value
abbrev pub Unset : Study → ℕ → ℕ → Type 0
Unset t v q = (i : ℕ) → Usable t i → var_of t i ≡ v → post_of t i ≡ q → ⊥

-- the trace breaks off at a value
pub record BreaksAt (t : Study) (v q : ℕ) : Type 0 where
  pub passed : List ℕ
  pub back : Back t v q passed
  pub off : q ≢ start_of t v
  pub unset : Unset t v q

-- the trace comes back to a value that it has passed
pub record ComesRound (t : Study) (v : ℕ) : Type 0 where
  pub value : ℕ
  pub passed : List ℕ
  pub back : Back t v value passed
  pub first : ℕ
  pub others : List ℕ
  pub circle : Trail t v value (first ∷ others) value

-- what document 02 tells with refusal 10: the value that is not set, or 255 where the trace comes round
abbrev pub came_round : ℕ
came_round = 255

pub data Breaks (t : Study) (v : ℕ) : ℕ → Type 0 where
  unset : {q : ℕ} → BreaksAt t v q → Breaks t v q
  round : ComesRound t v → Breaks t v came_round
