-- For each public call: two results that its contract allows on the same input are equal.
-- Assumes nothing.
use mathlib.Core.Path.{sym, ◌∙◌}
use mathlib.Core.List.{List}
use Prim.Native.Nat.{ℕ}
use lib.ListN.{length}
use Rattle.answer.specs.declared.Answer.{Answer}
use Rattle.answer.specs.Allowing.{Exactly, Settles, SettlesOne}
use Rattle.study.specs.Reading.{reading_for}
use Rattle.checker.specs.Check.{CheckAllows}
use Rattle.draw.specs.Draw.{draw_answer, draw_leaves, DrawAllows}
use Rattle.runs.specs.Run.{ran, run_answer, run_leaves, RunAllows}
use Rattle.planning.specs.Planning.{PlanAllows}
use Rattle.planning.specs.Seeded.{seed_ranks, SeededAllows}
use Rattle.planning.proofs.Determined.{file_plans_determined}
use Rattle.spelling.specs.Write.{WriteAllows}
use Rattle.spelling.proofs.Settled.{write_settles}
use Rattle.varied.specs.Report.{ReportAllows}
use Rattle.varied.proofs.Settled.{report_settles}
use Rattle.charts.specs.Answers.{ChartAllows}
use Rattle.charts.proofs.Settled.{chart_settled as charts-settle}
use Rattle.replays.specs.Replay.{ReplayAllows}
use Rattle.replays.proofs.Settled.{replay_settles}
use Rattle.journeys.specs.Allowed.{JourneysAllows}
use Rattle.journeys.proofs.Settled.{journeys_settles}
use Rattle.marrowkite.specs.Told.{RecordAllows}

-- what is given by equations is settled
exactly_settles : (answer : Answer) (bytes : List ℕ) → Settles (Exactly answer bytes)
exactly_settles answer bytes r r' after after' p q = (p.0 ∙ sym q.0, p.1 ∙ sym q.1)

pub check_settled : (file : List ℕ) → SettlesOne (CheckAllows file)
check_settled file r r' p q = p ∙ sym q

pub record_settled : (file : List ℕ) (at : ℕ) → SettlesOne (RecordAllows file at)
record_settled file at r r' p q = p ∙ sym q

pub draw_settled : (seed count : ℕ) (before : List ℕ) → Settles (DrawAllows seed count before)
draw_settled seed count before = exactly_settles (draw_answer seed count (length before)) (draw_leaves seed count before)

pub run_settled : (file : List ℕ) (crew : ℕ) (list before : List ℕ) → Settles (RunAllows file crew list before)
run_settled file crew list before =
    exactly_settles (run_answer (ran (reading_for file crew) (length before) list)) (run_leaves (ran (reading_for file crew) (length before) list) before)

pub plan_settled : (file : List ℕ) (crew : ℕ) (ranks before : List ℕ) → Settles (PlanAllows file crew ranks before)
plan_settled file crew ranks before r r' after after' p q = file_plans_determined file crew ranks before p q

pub seeded_settled : (file : List ℕ) (crew : ℕ) (before : List ℕ) → Settles (SeededAllows file crew before)
seeded_settled file crew = plan_settled file crew (seed_ranks (reading_for file crew))

pub write_settled :
    (situation : ℕ) (variables actions conditions crews tasks before : List ℕ)
    → Settles (WriteAllows situation variables actions conditions crews tasks before)
write_settled = write_settles

pub report_settled : (file : List ℕ) (crew first n : ℕ) (before : List ℕ) → Settles (ReportAllows file crew first n before)
report_settled = report_settles

pub chart_settled : (file : List ℕ) (crew : ℕ) (actions pairs : List ℕ) → SettlesOne (ChartAllows file crew actions pairs)
chart_settled = charts-settle

pub replay_settled : (file : List ℕ) (crew : ℕ) (log before : List ℕ) → Settles (ReplayAllows file crew log before)
replay_settled = replay_settles

pub journeys_settled :
    (file : List ℕ) (crew : ℕ) (ranks rides : List ℕ) (start : ℕ) (before : List ℕ) → Settles (JourneysAllows file crew ranks rides start before)
journeys_settled = journeys_settles
