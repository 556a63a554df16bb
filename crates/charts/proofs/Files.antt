-- For every file that loads, each of its crews, and every chart within the limits: 0 is answered exactly if the chart is accepted.
-- Assumes nothing.
use Prim.Native.Nat.{ℕ, ◌≤◌}
use mathlib.Core.Path.{◌≡◌}
use mathlib.Core.Logic.{◌⊎◌, ◌↔◌}
use mathlib.Core.List.{List}
use lib.ListN.{length}
use Rattle.answer.specs.declared.Answer.{Answer}
use Rattle.study.specs.Study.{Study}
use Rattle.study.specs.Reading.{says, reading_for}
use Rattle.lawful.specs.Lawful.{Lawful}
use Rattle.lawful.proofs.Loads.{heard_lawful}
use Rattle.planning.specs.Refusals.{NoPlanCanBe}
use Rattle.charts.specs.Charts.{Chart, Accepted, pairs_of, chart_of}
use Rattle.charts.specs.Answers.{most_actions, most_pairs, Charts, ChartAllows}
use Rattle.charts.proofs.Accepted.{answer_0_exactly_if_accepted, at_fault_not_accepted, answer_10_11_12_none_accepted}

module _ (file : List ℕ) (crew : ℕ) (actions pairs : List ℕ) {t : Study} (read : reading_for file crew ≡ says t) where
  lawful : Lawful t
  lawful = heard_lawful file crew t read

  charts : (r : Answer) → ChartAllows file crew actions pairs r → Charts t (chart_of actions pairs) r
  charts r allows = rw read at allows

  pub file_answer_0_exactly_if_accepted :
      length actions ≤ most_actions → length (pairs_of pairs) ≤ most_pairs
      → (r : Answer) → ChartAllows file crew actions pairs r → (r.number ≡ 0) ↔ Accepted t (chart_of actions pairs)
  file_answer_0_exactly_if_accepted few_actions few_pairs r allows =
      answer_0_exactly_if_accepted lawful few_actions few_pairs (charts r allows)

  -- 14, 25, 26, 27, 28
  pub file_at_fault_not_accepted :
      (r : Answer) → ChartAllows file crew actions pairs r → (r.number ≡ 14) ⊎ ((25 ≤ r.number) × (r.number ≤ 28))
      → Accepted t (chart_of actions pairs) → ⊥
  file_at_fault_not_accepted r allows = at_fault_not_accepted lawful (charts r allows)

  pub file_answer_10_11_12_none_accepted :
      (r : Answer) → ChartAllows file crew actions pairs r → NoPlanCanBe r → (other : Chart) → Accepted t other → ⊥
  file_answer_10_11_12_none_accepted r allows = answer_10_11_12_none_accepted lawful (charts r allows)
