-- The walk of a variable as document 01 traces it: from the goal value back, the one action in force that sets the value, then its pre, until the start value is met. There is none if some value on the way is set by no action in force, or if the trace comes round without meeting the start.
-- Assumes nothing.
use Rattle.std.specs.Prelude.{ℕ, zero, suc, List, [], ◌∷◌, eqb, length}
use Rattle.std.proofs.Math.Option.{Option, none, some}
use Rattle.plain.specs.Choose.{pick}
use Rattle.study.specs.Study.{Action, Study}
use Rattle.study.specs.Reading.{sets_to}
use Rattle.walks.specs.Walks.{pre_of, start_of, goal_of}
use Rattle.walks.specs.Breaks.{came_round}

-- the action in force that sets a variable to a value, if there is one, where the first is number k
unfoldable pub setter_from : ℕ → ℕ → List Action → ℕ → ℕ → Option ℕ
setter_from situation k [] v q = none
setter_from situation k (a ∷ rest) v q = pick (sets_to situation a v q) (some k) (setter_from situation (suc k) rest v q)

abbrev pub setter_of : Study → ℕ → ℕ → Option ℕ
setter_of t v q = setter_from t.situation 0 t.actions v q

-- what a trace comes to: the start is met by this walk; this value is set by no action in force; it comes round
pub data Trace : Type 0 where
  meets : List ℕ → Trace
  breaks : ℕ → Trace
  comes_round : Trace

-- on from the action that sets the value
abbrev pub back_by : Option ℕ → ℕ → (ℕ → Trace) → Trace
back_by none q on = breaks q
back_by (some i) q on = on i

-- from a value back, with the actions found so far, which lead on from it to the goal; a trace that has passed more actions than it may has come round
unfoldable pub traced_back : Study → ℕ → ℕ → ℕ → List ℕ → Trace
traced_back t v zero q found = comes_round
traced_back t v (suc n) q found =
    pick (eqb q (start_of t v)) (meets found) (back_by (setter_of t v q) q (λ i. traced_back t v n (pre_of t i) (i ∷ found)))

-- no more actions may be passed than there are, and the start is looked for once more
unfoldable pub trace : Study → ℕ → Trace
trace t v = traced_back t v (suc (length t.actions)) (goal_of t v) []

-- where it breaks off, in document 02's numbers
abbrev pub break_in : Trace → ℕ
break_in (meets w) = 0
break_in (breaks q) = q
break_in comes_round = came_round

unfoldable pub break_of : Study → ℕ → ℕ
break_of t v = break_in (trace t v)

-- the walk, if there is one
abbrev pub walk_in : Trace → Option (List ℕ)
walk_in (meets w) = some w
walk_in (breaks q) = none
walk_in comes_round = none

unfoldable pub walk_of : Study → ℕ → Option (List ℕ)
walk_of t v = walk_in (trace t v)
