-- `plan::tell` meets its contract: a refusal's one line, or the lines of the plan that fills the buffer's start.
-- Assumes nothing.
use mathlib.Core.Path.{sym}
use native.Mathlib.Omega.{arith}
use lib.ListN.{length-take}
use lib.Seq.{length-take-le}
use borrow.Author.Tests.{ne_eqb}
use Rattle.io.proofs.Counting.{prefix_len_of_le}
use Rattle.plan.proofs.Planned.{planned, printed_plan}
use Rattle.plan.proofs.tell.Goals as goal

pub returns-then-answer-ne0 : goal.returns-then-answer-ne0
returns-then-answer-ne0 c =
    record {
      prefix_len = prefix_len_of_le _ _ (omega (arith, c.refused.auto.out));
      printed = record {
        answer = c.plan_seeded-answer.result;
        buffer = c.plan_seeded-answer.new.plan;
        plans = c.plan_seeded-answer.ensures;
        told = rw (ne_eqb c.plan_seeded-answer.result.number 0 c.if-answer-ne0.true) c.refused.ensures.1;
      };
    }

pub slice_bounds-plan-end : goal.slice_bounds-plan-end
slice_bounds-plan-end c =
    let p = planned _ _ c.plan_seeded-answer.ensures c.if-answer-ne0.false in
    omega (arith, p.few, c.plan_seeded-answer.auto.plan)

pub slice_bounds-tell_plan-end : goal.slice_bounds-tell_plan-end
slice_bounds-tell_plan-end c =
    let p = planned _ _ c.plan_seeded-answer.ensures c.if-answer-ne0.false in
    sym (length-take-le c.plan_seeded-answer.result.first c.plan_seeded-answer.new.plan (omega (arith, p.few, c.plan_seeded-answer.auto.plan)))

pub tell_plan-requires : goal.tell_plan-requires
tell_plan-requires c =
    let p = planned _ _ c.plan_seeded-answer.ensures c.if-answer-ne0.false in
    (omega (arith, p.few, length-take-le c.plan_seeded-answer.result.first c.plan_seeded-answer.new.plan (omega (arith, p.few, c.plan_seeded-answer.auto.plan))), omega arith)

pub returns : goal.returns
returns c =
    let p = planned _ _ c.plan_seeded-answer.ensures c.if-answer-ne0.false in record {
      prefix_len = c.tell_plan.ensures.prefix_len;
      printed = printed_plan c.plan_seeded-answer.ensures c.if-answer-ne0.false p
          (c.tell_plan.ensures.out_after p.study p.its
          (λ k h. p.usable k (omega (arith, length-take c.plan_seeded-answer.result.first c.plan_seeded-answer.new.plan))));
    }
