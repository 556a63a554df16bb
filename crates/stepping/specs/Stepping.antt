-- How the state and the marks answer to the steps of a run.
-- Assumes nothing.
use Rattle.std.specs.Prelude.{ℕ, ◌+◌, ◌≤◌, ◌<◌, ◌≡◌, List, [], ◌∷◌, Result, Ok, Err, length, get_or}
use Rattle.answer.specs.declared.Answer.{Answer}
use Rattle.bits.specs.Bits.{bit}
use Rattle.study.specs.Study.{Study}
use Rattle.plans.specs.Plans.{State}
use Rattle.runs.specs.Run.{stops, held, away, at_goal, run_on}
use Rattle.barring.specs.Telling.{shown}

-- the first n variables, with values below 16, a word for each: bit q of word v tells whether v has had the value q in one of the states
pub record Marked (n : ℕ) (marks : List ℕ) (states : List State) : Type 0 where
  pub long : length marks ≡ 32
  pub tells : (v q : ℕ) → v < n → q < 16 → bit (get_or marks v 0) q ≡ held states v q

-- the first n variables have values below 16, so that there is a bit for each
pub record Small (n : ℕ) (table : List ℕ) : Type 0 where
  pub few : n ≤ 32
  pub value : (v : ℕ) → v < n → get_or table v 0 < 16

-- where a run stands: the present state and the marks of all states so far
pub record Stage (t : Study) (past : List State) (table marks : List ℕ) : Type 0 where
  pub long : length table ≡ 32
  pub marked : Marked (length t.counts) marks (shown t table ∷ past)

-- step k, which is action i, whatever follows it
abbrev pub Takes : Study → List State → ℕ → ℕ → List ℕ → List ℕ → List ℕ → Result (Unit {0}) Answer → Type 0
Takes t past k i table table' marks' (Ok done) =
    ((rest : List ℕ) → run_on t past (shown t table) k (i ∷ rest) ≡ run_on t (shown t table ∷ past) (shown t table') (k + 1) rest)
    × Stage t (shown t table ∷ past) table' marks'
Takes t past k i table table' marks' (Err a) = (rest : List ℕ) → run_on t past (shown t table) k (i ∷ rest) ≡ stops a

-- all steps of a list, or the refusal of one of them
abbrev pub Went : Study → List ℕ → List ℕ → List ℕ → Result (Unit {0}) Answer → Type 0
Went t plan table table' (Ok done) = (run_on t [] (shown t table) 0 plan ≡ at_goal (shown t table') (away (shown t table') 0 t.tasks)) × (length table' ≡ 32)
Went t plan table table' (Err a) = run_on t [] (shown t table) 0 plan ≡ stops a
