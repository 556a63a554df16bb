-- What holds at each turn of `tallying::count`.
-- Assumes nothing.
use mathlib.Core.Path.{◌≡◌}
use lib.ListN.{length, take}
use Rattle.tallying.specs.Tallied.{tallied}
use Rattle.tallying.proofs.count.Given as goal

abbrev pub invariant-loop-entry : goal.invariant-loop-entry
invariant-loop-entry l = l.row ≡ tallied (take l.entry-index l.entries) (length l.initial.row)
