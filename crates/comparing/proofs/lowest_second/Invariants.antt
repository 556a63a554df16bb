-- What holds at each turn of `comparing::lowest_second`.
-- Assumes nothing.
use Rattle.bits.specs.Bits.{bit}
use Rattle.bits.proofs.Counted.{counted}
use Rattle.comparing.proofs.Wanting.{NoneTo}
use Rattle.comparing.proofs.lowest_second.Given as goal

abbrev pub invariant-loop-rest : goal.invariant-loop-rest
invariant-loop-rest l = NoneTo l.members l.words l.ties l.x l.rest

abbrev pub decreases-loop-rest : goal.decreases-loop-rest
decreases-loop-rest l = counted (bit l.rest) 64
