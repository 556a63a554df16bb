-- What holds at each turn of `renaming::number_all`.
-- Assumes nothing.
use mathlib.Core.Path.{◌≡◌}
use Prim.Native.Nat.{ℕ, ◌<◌}
use lib.ListN.{length, get_or}
use Rattle.renaming.proofs.number_all.Given as goal

abbrev pub invariant-loop-i : goal.invariant-loop-i
invariant-loop-i l = (length l.ranks ≡ 64) × ((j : ℕ) → j < l.i → get_or l.ranks j 0 ≡ j)
