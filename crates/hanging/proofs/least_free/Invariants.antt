-- What holds at each turn of `hanging::least_free`.
-- Assumes nothing.
use Rattle.bits.specs.Bits.{bit}
use Rattle.bits.proofs.Counted.{counted}
use Rattle.hanging.proofs.Looking.{LookedTo}
use Rattle.hanging.proofs.least_free.Given as goal

abbrev pub invariant-loop-rest : goal.invariant-loop-rest
invariant-loop-rest l = LookedTo l.before l.left l.rest

abbrev pub decreases-loop-rest : goal.decreases-loop-rest
decreases-loop-rest l = counted (bit l.rest) 64
