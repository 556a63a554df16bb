-- `advancing::judge_action` meets its contract: the call's result is the fault, and the branch says whether it is 0.
-- Assumes nothing.
use mathlib.Core.Path.{refl, sym, ◌∙◌}
use native.Mathlib.Omega.{arith}
use borrow.Author.Tests.{eq-eqb, ne_eqb}
use Rattle.judging.proofs.Bounds.{action_bounds}
use Rattle.advancing.proofs.judge_action.Goals as goal

pub returns-then-fault-ne0 : goal.returns-then-fault-ne0
returns-then-fault-ne0 c = rw (← c.action_fault-fault.ensures, ne_eqb _ 0 c.if-fault-ne0.true) refl

pub overflow_add-result : goal.overflow_add-result
overflow_add-result c = omega (arith, (action_bounds _ (sym c.action_fault-fault.ensures ∙ c.if-fault-ne0.false)).0)

pub mark-requires : goal.mark-requires
mark-requires c = omega (arith, (action_bounds _ (sym c.action_fault-fault.ensures ∙ c.if-fault-ne0.false)).1)

pub returns : goal.returns
returns c = rw (← c.action_fault-fault.ensures, eq-eqb _ 0 c.if-fault-ne0.false) (rw c.mark.ensures refl)
