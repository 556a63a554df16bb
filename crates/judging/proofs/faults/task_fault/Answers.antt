-- `judging::faults::task_fault` meets its contract: each return's tests are those of `task_fault_lem`.
-- Assumes nothing.
use mathlib.Core.Bool.{not}
use mathlib.Core.Path.{ap}
use borrow.Author.Tests.{eq-eqb, ne_eqb}
use Rattle.judging.specs.Faults.{task_fault_lem}
use Rattle.judging.proofs.Tests.{not_taken, not_left}
use Rattle.judging.proofs.faults.task_fault.Goals as goal

pub returns-then-not-in_range : goal.returns-then-not-in_range
unfolding task_fault_lem
returns-then-not-in_range c =
    simp (eq-eqb _ _ c.if-i-tasks.true, not_taken c.in_range.ensures (ap not c.if-not-in_range.true))

pub returns-then-not-in_range-2 : goal.returns-then-not-in_range-2
unfolding task_fault_lem
returns-then-not-in_range-2 c =
    simp (eq-eqb _ _ c.if-i-tasks.true, not_left c.in_range.ensures (ap not c.if-not-in_range.false), not_taken c.in_range-then-i-tasks.ensures (ap not c.if-not-in_range-2.true))

pub returns-then-i-tasks : goal.returns-then-i-tasks
unfolding task_fault_lem
returns-then-i-tasks c =
    simp (eq-eqb _ _ c.if-i-tasks.true, not_left c.in_range.ensures (ap not c.if-not-in_range.false), not_left c.in_range-then-i-tasks.ensures (ap not c.if-not-in_range-2.false))

pub returns : goal.returns
unfolding task_fault_lem
returns c = simp (ne_eqb _ _ c.if-i-tasks.false)
