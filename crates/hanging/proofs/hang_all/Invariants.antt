-- What holds at each turn of `hanging::hang_all`.
-- Assumes nothing.
use mathlib.Core.Path.{◌≡◌}
use lib.ListN.{length}
use Rattle.bits.specs.Bits.{bit}
use Rattle.bits.proofs.Counted.{counted}
use Rattle.hanging.proofs.Settling.{SettledTo}
use Rattle.hanging.proofs.hang_all.Given as goal

abbrev pub invariant-loop-rest : goal.invariant-loop-rest
invariant-loop-rest l = (length l.hung ≡ 64) × SettledTo l.some l.rest l.before l.left l.ready l.initial.hung l.free l.hung

abbrev pub decreases-loop-rest : goal.decreases-loop-rest
decreases-loop-rest l = counted (bit l.rest) 64
