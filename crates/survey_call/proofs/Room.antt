-- In room for the longest report nothing is refused for want of room, and nothing that was cut is reported on.
-- Assumes nothing.
use mathlib.Core.Path.{◌≡◌, refl, ap}
use mathlib.Core.Logic.{◌≢◌}
use mathlib.Core.Bool.{Bool, true, false, ◌&&◌}
use mathlib.Core.Option.{Option, none, some}
use mathlib.Core.List.{List, [], ◌∷◌, ◌++◌}
use Prim.Native.Nat.{ℕ, ◌≤◌, ◌<◌}
use native.Mathlib.Nat.{mul-le-mul}
use native.Mathlib.Omega.{arith}
use lib.Dec.{leb}
use lib.ListN.{length, drop, replicate}
use borrow.Author.Tests.{leb-false}
use Rattle.plain.specs.Choose.{pick}
use Rattle.answer.specs.declared.Answer.{Answer}
use Rattle.answer.specs.Answers.{done, refusal}
use Rattle.answer.specs.Allowing.{Exactly}
use Rattle.study.specs.Study.{Study}
use Rattle.study.specs.Reading.{Said, says, refused, reading_for}
use Rattle.study.proofs.Refusals.{numbered_some, refusals_numbered, heard_outside, refusals_heard}
use Rattle.lawful.specs.Lawful.{Lawful}
use Rattle.lawful.specs.Lengths.{longest_file}
use Rattle.lawful.proofs.Loads.{heard_lawful}
use Rattle.lawful.proofs.Lengths.{longer_is_refused}
use Rattle.varied.specs.Outcomes.{Outcome, planned, barred, ComesTo, Come}
use Rattle.varied.specs.Figures.{report_of}
use Rattle.varied.specs.Report.{first_outside, BySeeds, ReportsOn, ReportAllows}
use Rattle.planning.proofs.Found.{straight_plan_short}
use Rattle.varied.proofs.Comes.{Yields, a_first_plan, yields}
use Rattle.varied.proofs.Alike.{plan_then_plans, barred_then_barred}
use Rattle.varied.proofs.Told.{barred_report, plans_report_length}
use Rattle.survey_call.specs.Input.{longest_report}

-- ---- the longest report

module _ {t : Study} (lawful : Lawful t) where
  plan_short : (seed : ℕ) (list : List ℕ) → ComesTo t seed (planned list) → length list ≤ 256
  plan_short seed list c = from (yields lawful seed c)
    where
      from : {list : List ℕ} → Yields t seed (planned list) → length list ≤ 256
      from (a_first_plan p) = straight_plan_short lawful p.straight

  all_barred_short : (n : ℕ) (r : Answer) → length (report_of (length t.actions) (replicate n (barred r))) ≤ longest_report
  all_barred_short n r = omega (arith, ap length (barred_report (length t.actions) n r))

  pub report_short : (first : ℕ) (outcomes : List Outcome) → Come t first outcomes → length (report_of (length t.actions) outcomes) ≤ longest_report
  report_short first [] come = all_barred_short 0 (done 0 0)
  report_short first (planned list ∷ rest) (c, later) =
      omega (
        arith,
        plans_report_length (length t.actions) (length list) (length (planned list ∷ rest)) (planned list ∷ rest)
            (plan_then_plans lawful c first (planned list ∷ rest) (c, later)) refl (omega arith),
        mul-le-mul lawful.few_actions (plan_short first list c),
      )
  report_short first (barred r ∷ rest) (c, later) =
      rw (barred_then_barred lawful c first (barred r ∷ rest) (c, later)) (all_barred_short (length (barred r ∷ rest)) r)

-- ---- 13 is not answered

roomy :
    (report before : List ℕ) (r : Answer) (after : List ℕ) (b : Bool) → leb (length report) (length before) ≡ b → length report ≤ length before
    → pick b (Exactly (done (length report) 0) (report ++ drop (length report) before)) (Exactly (refusal 13 (length report)) before) r after
    → r.number ≡ 0
roomy report before r after true test room w = ap (λ (x : Answer). x.number) w.0
roomy report before r after false test room w = absurd (omega (arith, leb-false (length report) (length before) test))

module _ (first n : ℕ) (before : List ℕ) (room : longest_report ≤ length before) (r : Answer) (after : List ℕ) where
  roomy_by_seeds : (t : Study) → Lawful t → (outside : Option ℕ) → BySeeds outside t first n before r after → r.number ≢ 13
  roomy_by_seeds t lawful none p thirteen =
      let report = report_of (length t.actions) p.outcomes in
      omega (arith, roomy report before r after _ refl (omega (arith, report_short lawful first p.outcomes p.come)) p.written)
  roomy_by_seeds t lawful (some seed) p thirteen = omega (arith, ap (λ (x : Answer). x.number) p.0)

  roomy_if_few :
      (t : Study) → Lawful t → (few : Bool)
      → pick few (BySeeds (first_outside first n) t first n before) (Exactly (refusal 19 n) before) r after → r.number ≢ 13
  roomy_if_few t lawful true p thirteen = roomy_by_seeds t lawful (first_outside first n) p thirteen
  roomy_if_few t lawful false p thirteen = omega (arith, ap (λ (x : Answer). x.number) p.0)

  roomy_said : (file : List ℕ) (crew : ℕ) (said : Said Study) → reading_for file crew ≡ said → ReportsOn said first n before r after → r.number ≢ 13
  roomy_said file crew (refused number place) e p thirteen =
      heard_outside (rw e at (refusals_heard file crew)) 13 (omega arith) (omega arith) (omega (arith, ap (λ (x : Answer). x.number) p.0))
  roomy_said file crew (says t) e p thirteen = roomy_if_few t (heard_lawful file crew t e) (leb 1 n && leb n 64) p thirteen

  pub never_13 : (file : List ℕ) (crew : ℕ) → ReportAllows file crew first n before r after → r.number ≢ 13
  never_13 file crew p = roomy_said file crew (reading_for file crew) refl p

-- ---- a file that fills all the bytes read

pub cut_file_is_refused :
    (file : List ℕ) → longest_file < length file → (crew first n : ℕ) (before : List ℕ) (r : Answer) (after : List ℕ)
    → ReportAllows file crew first n before r after → r.number ≢ 0
cut_file_is_refused file long crew first n before r after p zero =
    let (number, (place, said)) = longer_is_refused file long in
    omega (arith, ap (λ (x : Answer). x.number) (rw said at p).0, numbered_some (rw said at (refusals_numbered file)))
