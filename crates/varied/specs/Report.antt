-- What a report on so many seeds in a row may answer for a crew: the file's own refusal, then 22, then 19, then 18, then 13, or 0 with the report in the buffer.
-- Assumes nothing.
use Rattle.std.specs.Prelude.{ℕ, zero, suc, ◌≡◌, ◌&&◌, List, ◌++◌, leb, length, drop}
use Rattle.std.proofs.Math.Option.{Option, none, some}
use Rattle.plain.specs.Choose.{pick}
use Rattle.answer.specs.Answers.{done, refusal}
use Rattle.answer.specs.Allowing.{Allowing, Exactly}
use Rattle.answer.specs.declared.Answer.{Answer}
use Rattle.draw.specs.Draw.{seed_in_range}
use Rattle.study.specs.Study.{Study}
use Rattle.study.specs.Reading.{Said, says, refused, reading_for}
use Rattle.varied.specs.Outcomes.{Outcome, Come}
use Rattle.varied.specs.Figures.{report_of}

-- the first of so many seeds in a row that is out of range
unfoldable pub first_outside : ℕ → ℕ → Option ℕ
first_outside seed zero = none
first_outside seed (suc n) = pick (seed_in_range seed) (first_outside (suc seed) n) (some seed)

-- 0 with the report's length, or 13 with the length needed
abbrev pub WritesReport : List ℕ → List ℕ → Allowing
WritesReport report before =
    pick (leb (length report) (length before))
    (Exactly (done (length report) 0) (report ++ drop (length report) before))
    (Exactly (refusal 13 (length report)) before)

-- the report on what planning comes to with each seed
pub record Reports (t : Study) (first n : ℕ) (before : List ℕ) (r : Answer) (after : List ℕ) : Type 0 where
  pub outcomes : List Outcome
  pub each : length outcomes ≡ n
  pub come : Come t first outcomes
  pub written : WritesReport (report_of (length t.actions) outcomes) before r after

abbrev pub BySeeds : Option ℕ → Study → ℕ → ℕ → List ℕ → Allowing
BySeeds none t first n before = Reports t first n before
BySeeds (some seed) t first n before = Exactly (refusal 18 seed) before

abbrev pub ReportsOn : Said Study → ℕ → ℕ → List ℕ → Allowing
ReportsOn (refused number place) first n before = Exactly (refusal number place) before
ReportsOn (says t) first n before =
    pick (leb 1 n && leb n 64) (BySeeds (first_outside first n) t first n before) (Exactly (refusal 19 n) before)

abbrev pub ReportAllows : List ℕ → ℕ → ℕ → ℕ → List ℕ → Allowing
ReportAllows file crew first n before = ReportsOn (reading_for file crew) first n before
