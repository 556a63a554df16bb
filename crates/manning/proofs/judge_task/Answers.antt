-- `manning::judge_task` meets its contract: a task that is not wanted is refused with 3, any other by its fault, and without one it leads on.
-- Assumes nothing.
use mathlib.Core.Path.{refl}
use native.Mathlib.Omega.{arith}
use Prim.Native.Nat.{ℕ}
use Rattle.tables.specs.Rows.{count_column}
use Rattle.study.specs.Reading.{task}
use Rattle.judging.specs.Faults.{task_fault_lem}
use Rattle.judging.proofs.Bounds.{task_bounds}
use Rattle.advancing.specs.Steps.{after_task}
use Rattle.standing.proofs.Kept.{task_kept}
use Rattle.drafts.proofs.Turns.{task_early, task_wanted, no_task_wanted, next-task, not_far}
use Rattle.drafts.proofs.Stops.{refused_keeps}
use Rattle.drafts.proofs.OneRecord.{keeps_unless, not_in_turn, task_leads}
use Rattle.manning.proofs.judge_task.Goals as goal
use Rattle.manning.proofs.judge_task.Goals.{Start}

pub returns-then-p : goal.returns-then-p
returns-then-p c =
    let p = c.args.p in
    record { keeps = refused_keeps; by_index = λ file rest h. not_in_turn (task _ _ _) h (no_task_wanted p.last c.if-p.true) }

pub overflow_add-p : goal.overflow_add-p
overflow_add-p c =
    let (bounds, may) = c.requires in
    omega (arith, not_far bounds)

abbrev fault-of : Start → ℕ
fault-of s = task_fault_lem (count_column s.args.rows.now) s.args.p.vars s.args.p.tasks s.args.v s.args.start s.args.goal

pub returns : goal.returns
returns c =
    let a = c.args in
    let (bounds, may) = c.requires in
    record {
      keeps = rw c.on_task.ensures (keeps_unless (λ b. count_column a.rows.now) _ a.p (after_task a.p _) (fault-of (goal.at.returns c).Start)
          (λ z. (task_kept bounds _ a.v a.start a.goal z (task_early may) refl, (next-task refl, omega (arith, (task_bounds _ z).0, (task_bounds _ z).1, bounds.few_vars)))));
      by_index = rw c.on_task.ensures (λ file rest h. task_leads a.v a.start a.goal (task_wanted a.p.last may c.if-p.false) h (fault-of (goal.at.returns c).Start) refl);
    }
