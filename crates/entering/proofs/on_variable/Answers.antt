-- `entering::on_variable` meets its contract: the call's result is the fault, and the branch says whether it is 0.
-- Assumes nothing.
use mathlib.Core.Path.{refl, sym, ◌∙◌}
use native.Mathlib.Omega.{arith}
use borrow.Author.Tests.{eq-eqb, ne_eqb}
use Rattle.judging.proofs.Bounds.{variable_bounds}
use Rattle.entering.proofs.Rows.{count_stored}
use Rattle.entering.proofs.on_variable.Goals as goal

pub returns-then-fault-ne0 : goal.returns-then-fault-ne0
returns-then-fault-ne0 c = record { value = rw (← c.variable_fault-fault.ensures, ne_eqb _ 0 c.if-fault-ne0.true) refl; rows_after = rw (← c.variable_fault-fault.ensures, ne_eqb _ 0 c.if-fault-ne0.true) ((refl, refl, refl)) }

pub offset_bounds-rows-vars : goal.offset_bounds-rows-vars
offset_bounds-rows-vars c = omega (arith, (variable_bounds (sym c.variable_fault-fault.ensures ∙ c.if-fault-ne0.false)).0)

pub bounds-rows-vars : goal.bounds-rows-vars
bounds-rows-vars c = (variable_bounds (sym c.variable_fault-fault.ensures ∙ c.if-fault-ne0.false)).0

pub offset_bounds-rows-vars-2 : goal.offset_bounds-rows-vars-2
offset_bounds-rows-vars-2 c = omega (arith, (variable_bounds (sym c.variable_fault-fault.ensures ∙ c.if-fault-ne0.false)).0)

pub bounds-rows-vars-2 : goal.bounds-rows-vars-2
bounds-rows-vars-2 c = (variable_bounds (sym c.variable_fault-fault.ensures ∙ c.if-fault-ne0.false)).0

pub overflow_add-result : goal.overflow_add-result
overflow_add-result c = omega (arith, (variable_bounds (sym c.variable_fault-fault.ensures ∙ c.if-fault-ne0.false)).0)

pub returns : goal.returns
returns c = record { value = rw (← c.variable_fault-fault.ensures, eq-eqb _ 0 c.if-fault-ne0.false) refl; rows_after = rw (← c.variable_fault-fault.ensures, eq-eqb _ 0 c.if-fault-ne0.false) (count_stored _ _ _ refl) }
