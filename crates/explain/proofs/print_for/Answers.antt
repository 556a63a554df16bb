-- `explain::print_for` keeps to what it calls: a refusal has its number, and what answer 0 leaves is a straight plan.
-- Assumes nothing.
use native.Mathlib.Omega.{arith}
use mathlib.Core.Path.{sym}
use lib.Seq.{length-take-le}
use Rattle.explain.proofs.Planned.{seeded_straight}
use Rattle.explain.proofs.print_for.Goals as goal

pub slice_bounds-plan-end : goal.slice_bounds-plan-end
slice_bounds-plan-end c =
    let p = seeded_straight _ _ _ c.plan_seeded-answer.ensures c.if-answer-ne0.false in
    omega (arith, p.few, c.plan_seeded-answer.auto.plan)

pub slice_bounds-print_plan-end : goal.slice_bounds-print_plan-end
slice_bounds-print_plan-end c =
    let p = seeded_straight _ _ _ c.plan_seeded-answer.ensures c.if-answer-ne0.false in
    sym (length-take-le c.plan_seeded-answer.result.first c.plan_seeded-answer.new.plan (omega (arith, p.few, c.plan_seeded-answer.auto.plan)))

pub print_plan-requires : goal.print_plan-requires
print_plan-requires c =
    let p = seeded_straight _ _ _ c.plan_seeded-answer.ensures c.if-answer-ne0.false in (
      omega (arith, p.few, length-take-le c.plan_seeded-answer.result.first c.plan_seeded-answer.new.plan (omega (arith, p.few, c.plan_seeded-answer.auto.plan))),
      (p.study, p.its, p.plan),
    )
