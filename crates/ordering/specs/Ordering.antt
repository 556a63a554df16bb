-- What comes directly before each walk action, by rank, as bits of words; or the lowest walk action that wants a value off its walk.
-- Assumes nothing.
use Rattle.std.specs.Prelude.{ℕ, ◌<◌, ◌≡◌, true, List, length, get_or, Result, Ok, Err}
use Rattle.bits.specs.Bits.{bit}
use Rattle.study.specs.Study.{Study}
use Rattle.tables.specs.Rows.{Row, var_column, pre_column, place_column, many_column, start_column}
use Rattle.walks.specs.Walks.{OnAWalk, ComesBefore, Met, start_of}
use Rattle.planning.specs.Planning.{LowestOff}
use Rattle.tracing.specs.Facts.{Wishes, NamesUsable, Tells}
use Rattle.tracing.specs.Steps.{Rowed}
use Rattle.wanting.specs.declared.Off.{Off}

-- the direct orders among the walk actions, by rank: bit r of the members is set for the rank r of a walk action, and bit s of word r where s comes directly before r; a word with a bit is that of an action's rank
pub record Ordered (t : Study) (ranks : List ℕ) (members : ℕ) (before : List ℕ) : Type 0 where
  pub member : (i : ℕ) → OnAWalk t i → bit members (get_or ranks i 0) ≡ true
  pub only_members : (r : ℕ) → bit members r ≡ true → (i : ℕ) × (OnAWalk t i × (get_or ranks i 0 ≡ r))
  pub complete : (i j : ℕ) → OnAWalk t i → OnAWalk t j → ComesBefore t i j → bit (get_or before (get_or ranks j 0) 0) (get_or ranks i 0) ≡ true
  pub sound : (i j : ℕ) → OnAWalk t i → OnAWalk t j → bit (get_or before (get_or ranks j 0) 0) (get_or ranks i 0) ≡ true → ComesBefore t i j
  pub named : (r s : ℕ) → bit (get_or before r 0) s ≡ true → (j : ℕ) × ((j < length t.actions) × (get_or ranks j 0 ≡ r))

abbrev pub OrdersAll : Study → List ℕ → List ℕ → Result ℕ Off → Type 0
OrdersAll t ranks before (Ok m) = Met t × Ordered t ranks m before
OrdersAll t ranks before (Err o) = LowestOff t o.action o.var

-- what ordering needs of the loaded tables and of the walks entered in steps
pub record Orderable
    (file : List ℕ) (a : ℕ) (vars pres places manys firsts setters steps : List ℕ) (t : Study) : Type 0 where
  pub wishes : Wishes file a vars pres places manys t
  pub names : NamesUsable a setters t
  pub starts : Tells start_of (length t.tasks) firsts t
  pub rowed : Rowed t (length t.tasks) steps

-- .. as the rows hold it
abbrev pub OrderableIn : List ℕ → ℕ → List Row → List Row → List ℕ → List ℕ → Study → Type 0
OrderableIn file a acts vars setters steps t =
    Orderable file a (var_column acts) (pre_column acts) (place_column acts) (many_column acts) (start_column vars) setters steps t
