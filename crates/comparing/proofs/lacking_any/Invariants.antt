-- What holds at each turn of `comparing::lacking_any`.
-- Assumes nothing.
use Rattle.bits.specs.Bits.{bit}
use Rattle.bits.proofs.Counted.{counted}
use Rattle.comparing.proofs.Wanting.{LacksTo}
use Rattle.comparing.proofs.lacking_any.Given as goal

abbrev pub invariant-loop-rest : goal.invariant-loop-rest
invariant-loop-rest l = LacksTo l.members l.words l.ties l.rest l.any

abbrev pub decreases-loop-rest : goal.decreases-loop-rest
decreases-loop-rest l = counted (bit l.rest) 64
