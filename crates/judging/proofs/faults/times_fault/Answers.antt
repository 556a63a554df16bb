-- `judging::faults::times_fault` meets its contract: each return's test is that of `times_fault_lem`.
-- Assumes nothing.
use borrow.Author.Tests.{eq-eqb, ne_eqb}
use Rattle.judging.specs.Faults.{times_fault_lem}
use Rattle.judging.proofs.faults.times_fault.Goals as goal

pub returns-then-n-eq255 : goal.returns-then-n-eq255
unfolding times_fault_lem
returns-then-n-eq255 c = simp (eq-eqb _ _ c.if-n-eq255.true)

pub returns : goal.returns
unfolding times_fault_lem
returns c = simp (ne_eqb _ _ c.if-n-eq255.false)
