-- The call that reports: its contract settles the answer and the bytes, allows some, and lets no refusal alter a lent byte.
-- Assumes nothing.
use Prim.Native.Nat.{ℕ, zero, suc}
use native.Mathlib.Omega.{arith}
use mathlib.Core.Path.{◌≡◌, refl, sym, ap, ◌∙◌}
use mathlib.Core.Logic.{◌≢◌}
use mathlib.Core.Bool.{Bool, true, false, ◌&&◌}
use mathlib.Core.Option.{Option, none, some}
use mathlib.Core.List.{List, [], ◌∷◌, ◌++◌}
use lib.Dec.{leb}
use lib.ListN.{length, drop}
use Rattle.plain.specs.Choose.{pick}
use Rattle.answer.specs.Answers.{done, refusal}
use Rattle.answer.specs.Allowing.{Allowing, Exactly, Settles, Answers, AllowsOnly, RefusalAltersNothing}
use Rattle.answer.specs.declared.Answer.{Answer}
use Rattle.draw.specs.Draw.{drawn}
use Rattle.study.specs.Study.{Study}
use Rattle.study.specs.Reading.{Said, says, refused, reading_for}
use Rattle.lawful.specs.Lawful.{Lawful}
use Rattle.lawful.proofs.Loads.{LawfulIfHeard, hearing_lawful}
use Rattle.planning.proofs.Determined.{plans_determined}
use Rattle.reference.proofs.Reference.{planned, planned_allowed}
use Rattle.varied.specs.Outcomes.{Outcome, outcome_of, any_room, ComesTo, Come}
use Rattle.varied.specs.Figures.{report_of}
use Rattle.varied.specs.Report.{first_outside, WritesReport, Reports, BySeeds, ReportsOn, ReportAllows}

-- ---- each seed comes to one outcome

module _ {t : Study} (lawful : Lawful t) where
  pub comes_to_one : (seed : ℕ) {o o' : Outcome} → ComesTo t seed o → ComesTo t seed o' → o ≡ o'
  comes_to_one seed c d =
      let (e, f) = plans_determined lawful c.answers d.answers in
      sym c.tells ∙ ap (λ (r : Answer). outcome_of r c.left) e ∙ ap (outcome_of d.answer) f ∙ d.tells

  pub outcomes_determined :
      (first : ℕ) (outcomes outcomes' : List Outcome) → length outcomes ≡ length outcomes' → Come t first outcomes → Come t first outcomes'
      → outcomes ≡ outcomes'
  outcomes_determined first [] [] e come come' = refl
  outcomes_determined first [] (o ∷ rest) e come come' = absurd (omega arith)
  outcomes_determined first (o ∷ rest) [] e come come' = absurd (omega arith)
  outcomes_determined first (o ∷ rest) (o' ∷ rest') e (c, later) (c', later') =
      let f = comes_to_one first c c' in
      let g = outcomes_determined (suc first) rest rest' (omega arith) later later' in
      cc

  -- ---- .. and to some, as a planner by definitions finds

  pub comes_to_some : (seed : ℕ) → (o : Outcome) × ComesTo t seed o
  comes_to_some seed =
      let ranks = drawn seed (length t.actions) in
      let given = planned t ranks any_room in (
        outcome_of given.answer given.bytes,
        record { answer = given.answer; left = given.bytes; answers = planned_allowed lawful ranks any_room; tells = refl },
      )

  pub come_to_some : (first n : ℕ) → (outcomes : List Outcome) × ((length outcomes ≡ n) × Come t first outcomes)
  come_to_some first zero = ([], (refl, tt))
  come_to_some first (suc n) =
      let (o, c) = comes_to_some first in
      let (rest, (e, later)) = come_to_some (suc first) n in
      (o ∷ rest, (ap suc e, (c, later)))

-- ---- one result is allowed, and as a refusal it alters nothing

record AllowsOne (before : List ℕ) (allows : Allowing) : Type 0 where
  answer : Answer
  bytes : List ℕ
  only_it : AllowsOnly allows answer bytes
  unaltered : answer.number ≢ 0 → bytes ≡ before

exactly_one : {before : List ℕ} (answer : Answer) (bytes : List ℕ) → (answer.number ≢ 0 → bytes ≡ before) → AllowsOne before (Exactly answer bytes)
exactly_one answer bytes same = record {
  answer = answer;
  bytes = bytes;
  only_it = record { allowed = (refl, refl); only = λ r after p. p };
  unaltered = same;
}

refused-one : {before : List ℕ} (number first : ℕ) → AllowsOne before (Exactly (refusal number first) before)
refused-one {before} number first = exactly_one (refusal number first) before (λ _. refl)

by_test : {before : List ℕ} (b : Bool) {one other : Allowing} → AllowsOne before one → AllowsOne before other → AllowsOne before (pick b one other)
by_test true a b = a
by_test false a b = b

module _ (first n : ℕ) (before : List ℕ) where
  report_one : (report : List ℕ) → AllowsOne before (WritesReport report before)
  report_one report =
      by_test (leb (length report) (length before))
      (exactly_one (done (length report) 0) (report ++ drop (length report) before) (λ h. absurd (h refl)))
      (refused-one 13 (length report))

  reports_one : {t : Study} → Lawful t → AllowsOne before (Reports t first n before)
  reports_one {t} lawful = record {
    answer = one.answer;
    bytes = one.bytes;
    only_it = record {
      allowed = record { outcomes = outcomes; each = each; come = come; written = one.only_it.allowed };
      only = λ r after p.
          let same = outcomes_determined lawful first p.outcomes outcomes (p.each ∙ sym each) p.come come in
          one.only_it.only r after (rw same at p.written);
    };
    unaltered = one.unaltered;
  }
    where
      some_come : (outcomes : List Outcome) × ((length outcomes ≡ n) × Come t first outcomes)
      some_come = come_to_some lawful first n

      outcomes : List Outcome
      outcomes = some_come.0

      each : length outcomes ≡ n
      each = some_come.1.0

      come : Come t first outcomes
      come = some_come.1.1

      one : AllowsOne before (WritesReport (report_of (length t.actions) outcomes) before)
      one = report_one (report_of (length t.actions) outcomes)

  by_seeds_one : {t : Study} → Lawful t → (outside : Option ℕ) → AllowsOne before (BySeeds outside t first n before)
  by_seeds_one lawful none = reports_one lawful
  by_seeds_one lawful (some seed) = refused-one 18 seed

  said_one : (said : Said Study) → LawfulIfHeard said → AllowsOne before (ReportsOn said first n before)
  said_one (refused number place) lawful = refused-one number place
  said_one (says t) lawful = by_test (leb 1 n && leb n 64) (by_seeds_one lawful (first_outside first n)) (refused-one 19 n)

module _ (file : List ℕ) (crew first n : ℕ) (before : List ℕ) where
  one_allowed : AllowsOne before (ReportAllows file crew first n before)
  one_allowed = said_one first n before (reading_for file crew) (hearing_lawful file crew)

  pub report_settles : Settles (ReportAllows file crew first n before)
  report_settles r r' after after' p q =
      let (a, b) = one_allowed.only_it.only r after p in
      let (c, d) = one_allowed.only_it.only r' after' q in
      (a ∙ sym c, b ∙ sym d)

  pub report_answers : Answers (ReportAllows file crew first n before)
  report_answers = record { answer = one_allowed.answer; bytes = one_allowed.bytes; allowed = one_allowed.only_it.allowed }

  pub report_unaltered : RefusalAltersNothing (ReportAllows file crew first n before) before
  report_unaltered r after p h =
      let (a, b) = one_allowed.only_it.only r after p in
      b ∙ one_allowed.unaltered (λ e. h (ap (λ (answer : Answer). answer.number) a ∙ e))
