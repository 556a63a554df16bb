-- What holds at each turn of `tying::number_all`.
-- Assumes nothing.
use mathlib.Core.Path.{◌≡◌}
use mathlib.Core.List.{List}
use Prim.Native.Nat.{ℕ, ◌<◌}
use lib.ListN.{get_or}
use Rattle.tying.proofs.number_all.Given as goal

abbrev pub Placed : List ℕ → ℕ → Type 0
Placed room n = (j : ℕ) → j < n → get_or room j 0 ≡ j

abbrev pub invariant-loop-i : goal.invariant-loop-i
invariant-loop-i l = Placed l.place-items l.i
