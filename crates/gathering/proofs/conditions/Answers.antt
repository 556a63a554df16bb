-- `gathering::conditions` meets its contract: each turn takes one condition.
-- Assumes nothing.
use mathlib.Core.Bool.{not}
use mathlib.Core.Path.{ap}
use Prim.Native.Nat.{◌+◌, ◌-◌, ◌≤◌}
use native.Mathlib.Omega.{arith}
use mathlib.Core.Path.{◌≡◌, refl, sym, ◌∙◌}
use lib.ListN.{length}
use borrow.Author.Tests.{not-false}
use Rattle.records.specs.Records.{record_at_lem, body_length_lem, body_lengths}
use Rattle.records.specs.declared.Found.TheVariants.{There}
use Rattle.records.proofs.Laws.{there_lies}
use Rattle.judging.proofs.Bounds.{condition_bounds}
use Rattle.standing.proofs.Kept.{condition_kept}
use Rattle.standing.proofs.Runs.{many_entered, condition_taken}
use Rattle.gathering.proofs.conditions.Goals as goal
use Rattle.gathering.proofs.conditions.Goals.{Else-not-is_at}

is-there :
    (c : Else-not-is_at)
    → record_at_lem c.args.file.now c.loop-p.p.at
    ≡ There 3 (c.loop-p.p.at + 1) (c.loop-p.p.at + 1 + 2)
unfolding body_length_lem body_lengths
is-there c = c.is_at.ensures (omega arith) (omega arith) refl (not-false _ (ap not c.if-not-is_at.false))

inside : (c : Else-not-is_at) → c.loop-p.p.at + 3 ≤ length c.args.file.now
inside c = omega (arith, (there_lies _ _ (is-there c)).whole)

pub loop-p-init : goal.loop-p-init
loop-p-init c =
    let safe = c.requires.safe in
    let (low, high) = c.requires.le_last in
    (safe, ((low, high, omega arith), λ acts starts goals begins h. many_entered low high acts safe h))

pub returns-then-not-is_at : goal.returns-then-not-is_at
returns-then-not-is_at c = let i = c.loop-p.invariant in record { safe_2 = i.0; le_last_2 = i.1.0; halfway = i.1.1 }

pub overflow_add-v : goal.overflow_add-v
overflow_add-v c = omega (arith, inside c)

pub bounds-file-at : goal.bounds-file-at
bounds-file-at c = omega (arith, inside (goal.at.bounds-file-at c).Else-not-is_at)

pub overflow_add-at : goal.overflow_add-at
overflow_add-at c = omega (arith, inside (goal.at.overflow_add-at c).Else-not-is_at)

pub bounds-file-at-in-loop-p : goal.bounds-file-at-in-loop-p
bounds-file-at-in-loop-p c = omega (arith, inside (goal.at.bounds-file-at-in-loop-p c).Else-not-is_at)

pub returns-then-condition_fault-ne0 : goal.returns-then-condition_fault-ne0
returns-then-condition_fault-ne0 c = let i = c.loop-p.invariant in record { safe_2 = i.0; le_last_2 = i.1.0; halfway = i.1.1 }

pub overflow_add-next : goal.overflow_add-next
overflow_add-next c = omega (arith, inside (goal.at.overflow_add-next c).Else-not-is_at)

pub overflow_add-next-in-loop-p : goal.overflow_add-next-in-loop-p
overflow_add-next-in-loop-p c = omega (arith, condition_bounds _ (sym c.condition_fault.ensures ∙ c.if-condition_fault-ne0.false), c.loop-p.invariant.0.bounds.few_vars)

pub overflow_add-next-in-loop-p-2 : goal.overflow_add-next-in-loop-p-2
overflow_add-next-in-loop-p-2 c =
    let b = c.loop-p.invariant.0.bounds in
    omega (arith, b.fewer, b.low)

pub mark-requires : goal.mark-requires
mark-requires c =
    let b = c.loop-p.invariant.0.bounds in
    omega (arith, condition_bounds _ (sym c.condition_fault.ensures ∙ c.if-condition_fault-ne0.false), b.few_vars)

pub loop-p-smaller : goal.loop-p-smaller
loop-p-smaller c = omega (arith, inside (goal.at.loop-p-smaller c).Else-not-is_at)

pub loop-p-preserved : goal.loop-p-preserved
loop-p-preserved c =
    let (safe, ((low, high, further), reached)) = c.loop-p.invariant in
    let good = sym c.condition_fault.ensures ∙ c.if-condition_fault-ne0.false in
    rw c.mark.ensures (
      record { inside = inside (goal.at.loop-p-preserved c).Else-not-is_at; bounds = condition_kept safe.bounds _ _ _ good low high refl },
      (
        (omega arith, omega arith, omega arith),
        λ acts starts goals begins h. condition_taken low high acts safe (is-there (goal.at.loop-p-preserved c).Else-not-is_at) _ _ refl refl good (reached acts starts goals begins h),
      ),
    )
