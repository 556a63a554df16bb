-- What holds at each turn of `linking::gather_word`.
-- Assumes nothing.
use Rattle.bits.specs.Bits.{bit}
use Rattle.bits.proofs.Counted.{counted}
use Rattle.linking.proofs.Gathering.{JoinsTo}
use Rattle.linking.proofs.gather_word.Given as goal

abbrev pub invariant-loop-rest : goal.invariant-loop-rest
invariant-loop-rest l = JoinsTo l.q l.word l.rest l.rows l.initial.all l.all

abbrev pub decreases-loop-rest : goal.decreases-loop-rest
decreases-loop-rest l = counted (bit l.rest) 64
