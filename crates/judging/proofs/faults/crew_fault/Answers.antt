-- `judging::faults::crew_fault` meets its contract: each return's test is that of `crew_fault_lem`.
-- Assumes nothing.
use borrow.Author.Tests.{le-leb, lt-leb}
use Rattle.judging.specs.Faults.{crew_fault_lem}
use Rattle.judging.proofs.faults.crew_fault.Goals as goal

pub returns-then-crews-ge8 : goal.returns-then-crews-ge8
unfolding crew_fault_lem
returns-then-crews-ge8 c = simp (le-leb _ _ c.if-crews-ge8.true)

pub returns : goal.returns
unfolding crew_fault_lem
returns c = simp (lt-leb _ _ c.if-crews-ge8.false)
