-- `drafting::judge_variable` meets its contract: a variable with a fault is refused, and without one it leads on.
-- Assumes nothing.
use mathlib.Core.Path.{refl}
use native.Mathlib.Omega.{arith}
use lib.ListN.{set}
use Rattle.plain.specs.Choose.{pick}
use Rattle.tables.specs.Rows.{count_column}
use Rattle.judging.specs.Faults.{variable_fault_lem}
use Rattle.advancing.specs.Steps.{after_variable}
use Rattle.standing.proofs.Kept.{variable_kept}
use Rattle.drafts.proofs.Turns.{variable_early, not_far}
use Rattle.drafts.proofs.OneRecord.{keeps_unless, variable_leads}
use Rattle.drafting.proofs.judge_variable.Goals as goal

pub overflow_add-p : goal.overflow_add-p
overflow_add-p c =
    let (bounds, may) = c.requires in
    omega (arith, not_far bounds)

pub returns : goal.returns
returns c =
    let a = c.args in
    let (bounds, may) = c.requires in
    let e = c.on_variable.ensures in
    let counts = count_column a.rows.now in
    record {
      keeps = rw (e.value, e.rows_after.0) (keeps_unless (λ b. pick b (set counts a.p.vars a.n) counts) _ a.p (after_variable a.p _) (variable_fault_lem a.p.vars a.n)
          (λ z. (variable_kept bounds _ a.n z (variable_early may) refl, (refl, omega arith))));
      by_index = rw (e.value, e.rows_after.0) (λ file rest h. variable_leads a.n may h);
    }
