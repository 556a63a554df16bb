-- What holds at each turn of `opening::wake`.
-- Assumes nothing.
use Rattle.bits.specs.Bits.{bit}
use Rattle.bits.proofs.Counted.{counted}
use Rattle.opening.proofs.Waking.{Waking}
use Rattle.opening.proofs.wake.Given as goal

abbrev pub invariant-loop-rest : goal.invariant-loop-rest
invariant-loop-rest l = Waking l.some l.ranks l.steps l.state l.initial.opened l.rest l.opened

abbrev pub decreases-loop-rest : goal.decreases-loop-rest
decreases-loop-rest l = counted (bit l.rest) 64
