-- What holds at each turn of `renaming::renamed`.
-- Assumes nothing.
use Rattle.bits.specs.Bits.{bit}
use Rattle.bits.proofs.Counted.{counted}
use Rattle.renaming.proofs.Words.{RenamedTo}
use Rattle.renaming.proofs.renamed.Given as goal

abbrev pub invariant-loop-rest : goal.invariant-loop-rest
invariant-loop-rest l = RenamedTo l.ranks l.word l.rest l.under

abbrev pub decreases-loop-rest : goal.decreases-loop-rest
decreases-loop-rest l = counted (bit l.rest) 64
