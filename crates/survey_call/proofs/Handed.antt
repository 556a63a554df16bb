-- What the program hands to the reporter is what its input stands for, and a report that was made lies within the buffer.
-- Assumes nothing.
use mathlib.Core.Path.{◌≡◌, refl, ap}
use mathlib.Core.Bool.{Bool, true, false, ◌&&◌}
use mathlib.Core.Option.{Option, none, some}
use mathlib.Core.List.{List, ◌++◌}
use Prim.Native.Nat.{ℕ, ◌-◌, ◌≤◌}
use native.Mathlib.Omega.{arith}
use lib.Dec.{leb}
use lib.ListN.{length, take, drop}
use borrow.Author.Tests.{leb-true}
use Rattle.plain.specs.Choose.{pick}
use Rattle.answer.specs.declared.Answer.{Answer}
use Rattle.answer.specs.Answers.{done, refusal}
use Rattle.answer.specs.Allowing.{Exactly}
use Rattle.study.specs.Study.{Study}
use Rattle.study.specs.Reading.{Said, says, refused, reading_for}
use Rattle.study.proofs.Refusals.{heard_some, refusals_heard}
use Rattle.varied.specs.Figures.{report_of}
use Rattle.varied.specs.Report.{first_outside, BySeeds, ReportsOn, ReportAllows}
use Rattle.survey_call.specs.Input.{crew_in, first_in, count_in, file_in}

pub handed :
    (input before after : List ℕ) (r : Answer) (n end crew first count : ℕ)
    → end - 24 ≡ n - 24 → crew ≡ crew_in input → first ≡ first_in input → count ≡ count_in input
    → ReportAllows (take (end - 24) (drop 24 input)) crew first count before r after
    → ReportAllows (file_in n input) (crew_in input) (first_in input) (count_in input) before r after
handed input before after r n end crew first count e c f g w = rw (e, c, f, g) at w

-- ---- what answer 0 says

fits :
    (report before : List ℕ) (r : Answer) (after : List ℕ) (b : Bool) → leb (length report) (length before) ≡ b → r.number ≡ 0
    → pick b (Exactly (done (length report) 0) (report ++ drop (length report) before)) (Exactly (refusal 13 (length report)) before) r after
    → r.first ≤ length before
fits report before r after true test zero w = omega (arith, ap (λ (x : Answer). x.first) w.0, leb-true (length report) (length before) test)
fits report before r after false test zero w = absurd (omega (arith, ap (λ (x : Answer). x.number) w.0))

module _ (first n : ℕ) (before : List ℕ) (r : Answer) (after : List ℕ) (zero : r.number ≡ 0) where
  fits_by_seeds : (t : Study) (outside : Option ℕ) → BySeeds outside t first n before r after → r.first ≤ length before
  fits_by_seeds t none p =
      let report = report_of (length t.actions) p.outcomes in
      fits report before r after (leb (length report) (length before)) refl zero p.written
  fits_by_seeds t (some seed) p = absurd (omega (arith, ap (λ (x : Answer). x.number) p.0))

  fits_if_few :
      (t : Study) (few : Bool) → pick few (BySeeds (first_outside first n) t first n before) (Exactly (refusal 19 n) before) r after
      → r.first ≤ length before
  fits_if_few t true p = fits_by_seeds t (first_outside first n) p
  fits_if_few t false p = absurd (omega (arith, ap (λ (x : Answer). x.number) p.0))

  fits_said :
      (file : List ℕ) (crew : ℕ) (said : Said Study) → reading_for file crew ≡ said → ReportsOn said first n before r after → r.first ≤ length before
  fits_said file crew (refused number place) e p =
      absurd (omega (arith, ap (λ (x : Answer). x.number) p.0, heard_some (rw e at (refusals_heard file crew))))
  fits_said file crew (says t) e p = fits_if_few t (leb 1 n && leb n 64) p

pub report_fits :
    (file : List ℕ) (crew first n : ℕ) (before : List ℕ) (r : Answer) (after : List ℕ) → r.number ≡ 0
    → ReportAllows file crew first n before r after → r.first ≤ length before
report_fits file crew first n before r after zero p = fits_said first n before r after zero file crew (reading_for file crew) refl p
