-- What holds at each turn of `repeats::place_behind`: the place is that of the next entry.
-- Assumes nothing.
use mathlib.Core.Path.{◌≡◌}
use Prim.Native.Nat.{◌+◌, ◌*◌, ◌≤◌}
use Rattle.repeats.specs.Repeats.{place_of}
use Rattle.repeats.proofs.place_behind.Given as goal

abbrev pub invariant-loop-set : goal.invariant-loop-set
invariant-loop-set l = (l.place ≤ 30000 + 771 * l.set-index) × (l.place ≡ place_of l.front l.entries l.set-index)
