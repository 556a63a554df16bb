-- What holds at each turn of `reasons::by_leaves`.
-- Assumes nothing.
use Rattle.bits.specs.Bits.{within}
use Rattle.bits.proofs.Counted.{counted}
use Rattle.reasons.proofs.Leavers.{Underway}
use Rattle.reasons.proofs.by_leaves.Given as goal

abbrev pub invariant-loop-i : goal.invariant-loop-i
invariant-loop-i l =
    Underway l.act.var l.act.pre l.begin l.wanters l.places l.initial.facts l.facts l.rest l.n

abbrev pub decreases-loop-i : goal.decreases-loop-i
decreases-loop-i l = counted (within l.rest) 256
