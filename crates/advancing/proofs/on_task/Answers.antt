-- `advancing::on_task` meets its contract: the call's result is the fault, and the branch says whether it is 0.
-- Assumes nothing.
use mathlib.Core.Path.{sym, ◌∙◌}
use native.Mathlib.Omega.{arith}
use Rattle.judging.proofs.Bounds.{task_bounds}
use borrow.Author.Tests.{eq-eqb, ne_eqb}
use Rattle.advancing.proofs.on_task.Goals as goal

pub returns-then-fault-ne0 : goal.returns-then-fault-ne0
returns-then-fault-ne0 c = rw (← c.task_fault-fault.ensures, ne_eqb _ 0 c.if-fault-ne0.true)

pub overflow_add-result : goal.overflow_add-result
overflow_add-result c = omega (arith, task_bounds _ (sym c.task_fault-fault.ensures ∙ c.if-fault-ne0.false))

pub returns : goal.returns
returns c = rw (← c.task_fault-fault.ensures, eq-eqb _ 0 c.if-fault-ne0.false)
