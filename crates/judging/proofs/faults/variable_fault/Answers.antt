-- `judging::faults::variable_fault` meets its contract: each return's tests are those of `variable_fault_lem`.
-- Assumes nothing.
use borrow.Author.Tests.{le-leb, lt-leb}
use Rattle.judging.specs.Faults.{variable_fault_lem}
use Rattle.judging.proofs.faults.variable_fault.Goals as goal

pub returns-then-vars-ge32 : goal.returns-then-vars-ge32
unfolding variable_fault_lem
returns-then-vars-ge32 c = simp (le-leb _ _ c.if-vars-ge32.true)

pub returns-then-n-lt2 : goal.returns-then-n-lt2
unfolding variable_fault_lem
returns-then-n-lt2 c = simp (lt-leb _ _ c.if-vars-ge32.false, lt-leb _ _ c.if-n-lt2.true)

pub returns-then-n-gt16 : goal.returns-then-n-gt16
unfolding variable_fault_lem
returns-then-n-gt16 c = simp (lt-leb _ _ c.if-vars-ge32.false, le-leb _ _ c.if-n-lt2.false, lt-leb _ _ c.if-n-gt16.true)

pub returns : goal.returns
unfolding variable_fault_lem
returns c = simp (lt-leb _ _ c.if-vars-ge32.false, le-leb _ _ c.if-n-lt2.false, le-leb _ _ c.if-n-gt16.false)
