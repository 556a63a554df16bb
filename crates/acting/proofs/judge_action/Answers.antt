-- `acting::judge_action` meets its contract: an action with a fault is refused, and without one it leads on.
-- Assumes nothing.
use mathlib.Core.Path.{refl}
use native.Mathlib.Omega.{arith}
use Prim.Native.Nat.{ℕ}
use Rattle.tables.specs.Rows.{count_column}
use Rattle.judging.specs.Faults.{action_fault_lem}
use Rattle.judging.proofs.Bounds.{action_bounds}
use Rattle.advancing.specs.Steps.{after_action}
use Rattle.standing.proofs.Kept.{action_kept}
use Rattle.drafts.proofs.Turns.{action_early, not_far}
use Rattle.drafts.proofs.OneRecord.{keeps_unless, action_leads}
use Rattle.acting.proofs.judge_action.Goals as goal
use Rattle.acting.proofs.judge_action.Goals.{Start}

pub overflow_add-p : goal.overflow_add-p
overflow_add-p c =
    let (bounds, may) = c.requires in
    omega (arith, not_far bounds)

abbrev fault-of : Start → ℕ
fault-of s = action_fault_lem (count_column s.args.rows.now) s.args.p.vars s.args.p.actions s.args.v s.args.pre s.args.post

pub returns : goal.returns
returns c =
    let a = c.args in
    let (bounds, may) = c.requires in
    rw c.judge_action.ensures (record {
      keeps =
          keeps_unless (λ b. count_column a.rows.now) _ a.p (after_action a.p a.v _) (fault-of (goal.at.returns c).Start)
          (λ z. (
            action_kept bounds _ a.v a.pre a.post z (action_early may) refl,
            (refl, omega (arith, (action_bounds _ {v = a.v} z).1, bounds.few_vars), refl),
          ));
      by_index = λ file rest h. action_leads a.v a.pre a.post may h (fault-of (goal.at.returns c).Start) refl;
    })
