-- `judging::faults::seed_fault` meets its contract: each return's tests are those of `seed_fault_lem`.
-- Assumes nothing.
use borrow.Author.Tests.{le-leb, lt-leb}
use Rattle.judging.specs.Faults.{seed_fault_lem}
use Rattle.judging.proofs.faults.seed_fault.Goals as goal

pub returns-then-n-lt1 : goal.returns-then-n-lt1
unfolding seed_fault_lem
returns-then-n-lt1 c = simp (lt-leb _ _ c.if-n-lt1.true)

pub returns-then-n-gt2147483646 : goal.returns-then-n-gt2147483646
unfolding seed_fault_lem
returns-then-n-gt2147483646 c = simp (le-leb _ _ c.if-n-lt1.false, lt-leb _ _ c.if-n-gt2147483646.true)

pub returns : goal.returns
unfolding seed_fault_lem
returns c = simp (le-leb _ _ c.if-n-lt1.false, le-leb _ _ c.if-n-gt2147483646.false)
