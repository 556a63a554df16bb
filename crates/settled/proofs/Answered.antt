-- For each public call: on every input its contract allows some result, so that what is proved of all results is not proved of nothing.
-- Assumes nothing.
use mathlib.Core.Path.{refl}
use mathlib.Core.List.{List}
use Prim.Native.Nat.{ℕ}
use lib.ListN.{length}
use Rattle.answer.specs.declared.Answer.{Answer}
use Rattle.answer.specs.Allowing.{Exactly, Answers, AnswersOne}
use Rattle.records.specs.Records.{record_at_lem}
use Rattle.study.specs.Reading.{reading, reading_for}
use Rattle.lawful.proofs.Loads.{hearing_lawful}
use Rattle.checker.specs.Check.{check_answer, CheckAllows}
use Rattle.draw.specs.Draw.{draw_answer, draw_leaves, DrawAllows}
use Rattle.runs.specs.Run.{ran, run_answer, run_leaves, RunAllows}
use Rattle.planning.specs.Planning.{PlanAllows}
use Rattle.planning.specs.Seeded.{seed_ranks, SeededAllows}
use Rattle.reference.proofs.Reference.{planned_file, planned_file_allowed}
use Rattle.spelling.specs.Write.{WriteAllows}
use Rattle.spelling.proofs.Settled.{write_answers}
use Rattle.varied.specs.Report.{ReportAllows}
use Rattle.varied.proofs.Settled.{report_answers}
use Rattle.charts.specs.Answers.{ChartAllows}
use Rattle.charts.proofs.Settled.{chart_answered as charts-answer}
use Rattle.replays.specs.Replay.{ReplayAllows}
use Rattle.replays.proofs.Settled.{replay_answers}
use Rattle.journeys.specs.Allowed.{JourneysAllows}
use Rattle.journeys.proofs.Settled.{journeys_answers}
use Rattle.marrowkite.specs.Told.{told, RecordAllows}

-- what is given by equations is allowed
exactly_answers : (answer : Answer) (bytes : List ℕ) → Answers (Exactly answer bytes)
exactly_answers answer bytes = record { answer = answer; bytes = bytes; allowed = (refl, refl) }

pub check_answered : (file : List ℕ) → AnswersOne (CheckAllows file)
check_answered file = record { answer = check_answer (reading file); allowed = refl }

pub record_answered : (file : List ℕ) (at : ℕ) → AnswersOne (RecordAllows file at)
record_answered file at = record { answer = told (record_at_lem file at); allowed = refl }

pub draw_answered : (seed count : ℕ) (before : List ℕ) → Answers (DrawAllows seed count before)
draw_answered seed count before = exactly_answers (draw_answer seed count (length before)) (draw_leaves seed count before)

pub run_answered : (file : List ℕ) (crew : ℕ) (list before : List ℕ) → Answers (RunAllows file crew list before)
run_answered file crew list before =
    exactly_answers (run_answer (ran (reading_for file crew) (length before) list)) (run_leaves (ran (reading_for file crew) (length before) list) before)

pub plan_answered : (file : List ℕ) (crew : ℕ) (ranks before : List ℕ) → Answers (PlanAllows file crew ranks before)
plan_answered file crew ranks before =
    let said = reading_for file crew in
    let given = planned_file said ranks before in
    record { answer = given.answer; bytes = given.bytes; allowed = planned_file_allowed said (hearing_lawful file crew) ranks before }

pub seeded_answered : (file : List ℕ) (crew : ℕ) (before : List ℕ) → Answers (SeededAllows file crew before)
seeded_answered file crew = plan_answered file crew (seed_ranks (reading_for file crew))

pub write_answered :
    (situation : ℕ) (variables actions conditions crews tasks before : List ℕ)
    → Answers (WriteAllows situation variables actions conditions crews tasks before)
write_answered = write_answers

pub report_answered : (file : List ℕ) (crew first n : ℕ) (before : List ℕ) → Answers (ReportAllows file crew first n before)
report_answered = report_answers

pub chart_answered : (file : List ℕ) (crew : ℕ) (actions pairs : List ℕ) → AnswersOne (ChartAllows file crew actions pairs)
chart_answered = charts-answer

pub replay_answered : (file : List ℕ) (crew : ℕ) (log before : List ℕ) → Answers (ReplayAllows file crew log before)
replay_answered = replay_answers

pub journeys_answered :
    (file : List ℕ) (crew : ℕ) (ranks rides : List ℕ) (start : ℕ) (before : List ℕ) → Answers (JourneysAllows file crew ranks rides start before)
journeys_answered = journeys_answers
