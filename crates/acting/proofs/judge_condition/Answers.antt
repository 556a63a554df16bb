-- `acting::judge_condition` meets its contract: a condition with a fault is refused, as one that is not lent is, and without one it leads on.
-- Assumes nothing.
use mathlib.Core.Path.{refl}
use native.Mathlib.Omega.{arith}
use Prim.Native.Nat.{ℕ, ◌+◌}
use lib.ListN.{get_or}
use Rattle.tables.specs.Rows.{count_column}
use Rattle.judging.specs.Faults.{condition_fault_lem}
use Rattle.judging.proofs.Bounds.{condition_bounds}
use Rattle.advancing.specs.Steps.{after_condition}
use Rattle.standing.proofs.Kept.{condition_kept}
use Rattle.drafts.proofs.Turns.{not_far}
use Rattle.drafts.proofs.OneRecord.{keeps_unless, condition_leads}
use Rattle.drafts.proofs.LentBytes.{condition-lent, condition-unlent}
use Rattle.acting.proofs.judge_condition.Goals as goal
use Rattle.acting.proofs.judge_condition.Goals.{Start}

abbrev fault-of : Start → ℕ → ℕ → ℕ
fault-of s v q = condition_fault_lem (count_column s.args.rows.now) s.args.p.vars s.args.p.own s.args.p.above v q

pub overflow_add-next : goal.overflow_add-next
overflow_add-next c =
    let (bounds, low, high, _) = c.requires in
    omega (arith, not_far bounds)

pub returns-then-conditions-i-lt2 : goal.returns-then-conditions-i-lt2
returns-then-conditions-i-lt2 c =
    let a = c.args in
    let (bounds, low, high, in_bytes) = c.requires in
    rw (c.judge_condition.ensures, condition-unlent a.conditions.now a.i (omega arith)) (record {
      keeps =
          keeps_unless (λ b. count_column a.rows.now) _ a.p (after_condition a.p 255 _) (fault-of (goal.at.returns-then-conditions-i-lt2 c).Start 255 255)
          (λ z. absurd (omega (arith, (condition_bounds _ {v = 255} z).0, bounds.few_vars)));
      by_index = λ file rest h. condition_leads 255 255 low high h (fault-of (goal.at.returns-then-conditions-i-lt2 c).Start 255 255) refl;
    })

pub returns : goal.returns
returns c =
    let a = c.args in
    let (bounds, low, high, in_bytes) = c.requires in
    let v = get_or a.conditions.now a.i 0 in
    let q = get_or a.conditions.now (a.i + 1) 0 in
    rw (c.judge_condition-2.ensures, condition-lent a.conditions.now a.i (omega arith)) (record {
      keeps =
          keeps_unless (λ b. count_column a.rows.now) _ a.p (after_condition a.p v _) (fault-of (goal.at.returns c).Start v q)
          (λ z. (condition_kept bounds _ v q z low high refl, (refl, omega arith, refl)));
      by_index = λ file rest h. condition_leads v q low high h (fault-of (goal.at.returns c).Start v q) refl;
    })
