-- `judging::faults::present_fault` meets its contract: each return's tests are those of `present_fault_lem`.
-- Assumes nothing.
use borrow.Author.Tests.{le-leb, lt-leb, eq-eqb, ne_eqb}
use Rattle.judging.specs.Faults.{present_fault_lem}
use Rattle.judging.proofs.faults.present_fault.Goals as goal

pub returns-then-n-gt7 : goal.returns-then-n-gt7
unfolding present_fault_lem
returns-then-n-gt7 c = simp (lt-leb _ _ c.if-n-gt7.true)

pub returns-then-n-eq0 : goal.returns-then-n-eq0
unfolding present_fault_lem
returns-then-n-eq0 c = simp (le-leb _ _ c.if-n-gt7.false, eq-eqb _ _ c.if-n-eq0.true)

pub returns : goal.returns
unfolding present_fault_lem
returns c = simp (le-leb _ _ c.if-n-gt7.false, ne_eqb _ _ c.if-n-eq0.false)
