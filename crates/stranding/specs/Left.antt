-- Sets of actions in words, and a study whose walk actions are to be taken.
-- Assumes nothing.
use Rattle.std.specs.Prelude.{ℕ, ◌<◌, ◌≡◌, ◌↔◌, true, List, [], length}
use Rattle.bits.specs.Bits.{within}
use Rattle.study.specs.Study.{Study}
use Rattle.orders.specs.Orders.{In}
use Rattle.walks.specs.Walks.{start_of}
use Rattle.tables.specs.Tables.{ActionTables, HoldsActions}
use Rattle.tables.specs.Rows.{Row, start_column, seen}
use Rattle.tracing.specs.Facts.{Tells}
use Rattle.tracing.specs.Steps.{Rowed}
use Rattle.stages.specs.Whole.{Orderly}

-- the set has just the numbers below 256 that P is so of
abbrev pub HasJust : (ℕ → Type 0) → List ℕ → Type 0
HasJust P set = (i : ℕ) → i < 256 → (within set i ≡ true) ↔ P i

-- the set is another without those of a list
abbrev pub Less : List ℕ → List ℕ → List ℕ → Type 0
Less list before after = (i : ℕ) → i < 256 → (within after i ≡ true) ↔ ((within before i ≡ true) × (In i list → ⊥))

-- the tables hold the study, its walks are entered, and every condition is on them
pub record Untaken (file : List ℕ) (n a total : ℕ) (acts : ActionTables) (starts steps : List ℕ) (t : Study) : Type 0 where
  pub orderly : Orderly total t
  pub variables : n ≡ length t.tasks
  pub actions : HoldsActions file t.situation a acts t.actions
  pub tells_starts : Tells start_of n starts t
  pub rowed : Rowed t n steps

-- .. as the rows hold it, whatever the table of setters is
abbrev pub UntakenIn : List ℕ → ℕ → ℕ → ℕ → List Row → List Row → List ℕ → Study → Type 0
UntakenIn file n a total acts vars steps t = Untaken file n a total (seen [] acts) (start_column vars) steps t
