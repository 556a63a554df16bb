-- Charts over files that load, for each of their crews: within the limits 0 is answered exactly if the chart is accepted; with 14, 25 to 28 it is not; with 10 to 12 none is.
-- Assumes nothing.
use Prim.Native.Nat.{ℕ, ◌≤◌}
use mathlib.Core.Path.{◌≡◌}
use mathlib.Core.Logic.{◌⊎◌, ◌↔◌}
use mathlib.Core.List.{List}
use lib.ListN.{length}
use Rattle.answer.specs.declared.Answer.{Answer}
use Rattle.study.specs.Study.{Study}
use Rattle.planning.specs.Refusals.{NoPlanCanBe}
use Rattle.charts.specs.Charts.{Chart, Accepted, pairs_of, chart_of}
use Rattle.charts.specs.Answers.{most_actions, most_pairs, ChartAllows}
use Rattle.charts.proofs.Files.{file_answer_0_exactly_if_accepted, file_at_fault_not_accepted, file_answer_10_11_12_none_accepted}
use Rattle.demands.specs.Words.{LoadsFor}

module _
    (file : List ℕ) (crew : ℕ) (t : Study) (loads : LoadsFor file crew t) (actions pairs : List ℕ) (r : Answer)
    (allowed : ChartAllows file crew actions pairs r)
  where
    pub answered_0_exactly_if_accepted :
        length actions ≤ most_actions → length (pairs_of pairs) ≤ most_pairs → (r.number ≡ 0) ↔ Accepted t (chart_of actions pairs)
    answered_0_exactly_if_accepted few_actions few_pairs =
        file_answer_0_exactly_if_accepted file crew actions pairs loads few_actions few_pairs r allowed

    pub chart_at_fault_is_not_accepted : (r.number ≡ 14) ⊎ ((25 ≤ r.number) × (r.number ≤ 28)) → Accepted t (chart_of actions pairs) → ⊥
    chart_at_fault_is_not_accepted = file_at_fault_not_accepted file crew actions pairs loads r allowed

    pub where_no_plan_can_be_no_chart_is_accepted : NoPlanCanBe r → (other : Chart) → Accepted t other → ⊥
    where_no_plan_can_be_no_chart_is_accepted = file_answer_10_11_12_none_accepted file crew actions pairs loads r allowed
