-- Demand 1, a refused call alters nothing: with any number but 0 no lent byte is altered. One theorem for each call that lends a buffer, for every input; a file that is refused is an input too, and so is a crew that is not there.
-- Assumes nothing.
use mathlib.Core.Path.{ap}
use mathlib.Core.Option.{Option, none, some}
use mathlib.Core.List.{List}
use Prim.Native.Nat.{ℕ}
use lib.ListN.{length}
use Rattle.answer.specs.declared.Answer.{Answer}
use Rattle.answer.specs.Answers.{done}
use Rattle.answer.specs.Allowing.{Exactly, RefusalAltersNothing}
use Rattle.spelling.specs.Write.{WriteAllows}
use Rattle.spelling.proofs.Settled.{write_unaltered}
use Rattle.study.specs.Study.{Study}
use Rattle.study.specs.Reading.{Said, says, refused, reading_for}
use Rattle.draw.specs.Draw.{drawn_last, answer_by, bytes_by, DrawAllows}
use Rattle.draw.specs.Draw.{refused as notDrawn}
use Rattle.runs.specs.Run.{Ran, ends_in, stops, ran, run_answer, run_leaves, RunAllows}
use Rattle.planning.specs.Planning.{PlansFile, PlanAllows}
use Rattle.planning.specs.Seeded.{seed_ranks, SeededAllows}
use Rattle.replays.specs.Replay.{ReplayAllows}
use Rattle.replays.proofs.Settled.{refusal_as_lent as replay-as-lent}
use Rattle.planning.proofs.Exact.{refusal_alters_nothing}
use Rattle.varied.specs.Report.{ReportAllows}
use Rattle.varied.proofs.Settled.{report_unaltered}
use Rattle.journeys.specs.Allowed.{JourneysAllows}
use Rattle.journeys.proofs.Settled.{refusal_as_lent as journeys-as-lent}

said_unaltered : (said : Said Study) (ranks before : List ℕ) → RefusalAltersNothing (PlansFile said ranks before) before
said_unaltered (says t) ranks before r after p h = refusal_alters_nothing p h
said_unaltered (refused number place) ranks before r after p h = p.1

run_unaltered : (outcome : Ran) (before : List ℕ) → RefusalAltersNothing (Exactly (run_answer outcome) (run_leaves outcome before)) before
run_unaltered (ends_in s) before r after p h = absurd (h (ap (λ (a : Answer). a.number) p.0))
run_unaltered (stops a) before r after p h = p.1

draw_unaltered :
    (refusal : Option Answer) (last : ℕ) (list before : List ℕ)
    → RefusalAltersNothing (Exactly (answer_by refusal (done last 0)) (bytes_by refusal list before)) before
draw_unaltered none last list before r after p h = absurd (h (ap (λ (a : Answer). a.number) p.0))
draw_unaltered (some a) last list before r after p h = p.1

-- ---- the theorems

pub refused_plan_alters_nothing :
    (file : List ℕ) (crew : ℕ) (ranks before : List ℕ) → RefusalAltersNothing (PlanAllows file crew ranks before) before
refused_plan_alters_nothing file crew = said_unaltered (reading_for file crew)

pub refused_seeded_plan_alters_nothing :
    (file : List ℕ) (crew : ℕ) (before : List ℕ) → RefusalAltersNothing (SeededAllows file crew before) before
refused_seeded_plan_alters_nothing file crew = refused_plan_alters_nothing file crew (seed_ranks (reading_for file crew))

pub refused_run_alters_nothing :
    (file : List ℕ) (crew : ℕ) (list before : List ℕ) → RefusalAltersNothing (RunAllows file crew list before) before
refused_run_alters_nothing file crew list before = run_unaltered (ran (reading_for file crew) (length before) list) before

pub refused_draw_alters_nothing : (seed count : ℕ) (before : List ℕ) → RefusalAltersNothing (DrawAllows seed count before) before
refused_draw_alters_nothing seed count before = draw_unaltered (notDrawn seed count (length before)) (drawn_last seed count) _ before

pub refused_write_alters_nothing :
    (situation : ℕ) (variables actions conditions crews tasks before : List ℕ)
    → RefusalAltersNothing (WriteAllows situation variables actions conditions crews tasks before) before
refused_write_alters_nothing = write_unaltered

pub refused_report_alters_nothing :
    (file : List ℕ) (crew first n : ℕ) (before : List ℕ) → RefusalAltersNothing (ReportAllows file crew first n before) before
refused_report_alters_nothing = report_unaltered

pub refused_replay_alters_nothing :
    (file : List ℕ) (crew : ℕ) (log before : List ℕ) → RefusalAltersNothing (ReplayAllows file crew log before) before
refused_replay_alters_nothing = replay-as-lent

pub refused_journeys_alter_nothing :
    (file : List ℕ) (crew : ℕ) (ranks rides : List ℕ) (start : ℕ) (before : List ℕ)
    → RefusalAltersNothing (JourneysAllows file crew ranks rides start before) before
refused_journeys_alter_nothing = journeys-as-lent
