-- Crews: what a file says to each; calls for a crew depend on nothing but the situation, the variables, the actions and that crew's tasks and seed; a crew that is not there is answered 22; a crew alone has the whole file.
-- Assumes nothing.
use mathlib.Core.Path.{◌≡◌, refl, sym, ap, subst, ◌∙◌}
use mathlib.Core.List.{List, [], ◌∷◌}
use Prim.Native.Nat.{ℕ, ◌≤◌, ◌<◌}
use native.Mathlib.Omega.{arith}
use lib.ListN.{length}
use borrow.Author.Tests.{lt-ltb, le-ltb}
use Rattle.answer.specs.Answers.{refusal}
use Rattle.answer.specs.Allowing.{Allowing, Exactly, Settles, SettlesOne, AllowsOnly}
use Rattle.answer.specs.declared.Answer.{Answer}
use Rattle.study.specs.Study.{Crew, Roster, Study, crew_at, study_of}
use Rattle.study.specs.Reading.{Said, says, refused, reading, reading_for}
use Rattle.runs.specs.Run.{ran, run_answer, run_leaves}
use Rattle.runs.proofs.Answers.{ran-refused}
use Rattle.planning.specs.Planning.{PlansFile}
use Rattle.planning.specs.Seeded.{seed_ranks, PlansSeeded}
use Rattle.planning.proofs.Determined.{file_plans_determined}
use Rattle.varied.specs.Report.{ReportsOn}
use Rattle.varied.proofs.Settled.{report_settles}
use Rattle.charts.specs.Charts.{chart_of}
use Rattle.charts.specs.Answers.{ChartsFile}
use Rattle.charts.proofs.Settled.{chart_settled}
use Rattle.replays.specs.Replay.{replayed, replay_answer, replay_leaves}
use Rattle.replays.proofs.Refusals.{replayed-refused}
use Rattle.replays.proofs.Settled.{replay_settles}
use Rattle.journeys.specs.Planned.{no_plan}
use Rattle.journeys.specs.Allowed.{Travels, JourneysAllows}
use Rattle.journeys.proofs.Settled.{journeys_settles}
use Rattle.demands.specs.Words.{LoadsAs, LoadsFor}
use Rattle.demands.specs.Crews.{Agree, Alike, AlikeOne, AnsweredAlike, RefusedWith, alone}

abbrev RunOn : Said Study → List ℕ → List ℕ → Allowing
RunOn said list before = Exactly (run_answer (ran said (length before) list)) (run_leaves (ran said (length before) list) before)

abbrev ReplayOn : Said Study → List ℕ → List ℕ → Allowing
ReplayOn said log before = Exactly (replay_answer (replayed said log)) (replay_leaves (replayed said log) before)

-- ---- what a file says to a crew

module _ (file : List ℕ) (r : Roster) (loads : LoadsAs file r) (c : ℕ) where
  pub crew_hears_its_study : c < length r.crews → LoadsFor file c (study_of r (crew_at r.crews c))
  crew_hears_its_study there = rw (loads, lt-ltb c (length r.crews) there)

  pub missing_crew_hears_22 : length r.crews ≤ c → reading_for file c ≡ refused 22 c
  missing_crew_hears_22 missing = rw (loads, le-ltb c (length r.crews) missing)

pub every_crew_hears_the_refusal :
    (file : List ℕ) (number place : ℕ) → reading file ≡ refused number place → (c : ℕ) → reading_for file c ≡ refused number place
every_crew_hears_the_refusal file number place e c = rw e

-- ---- files that agree

pub agreeing_say_the_same : {f g : List ℕ} {c d : ℕ} → Agree f c g d → reading_for f c ≡ reading_for g d
agreeing_say_the_same {f} {g} {c} {d} a =
    crew_hears_its_study f a.one a.one_loads c a.one_there
    ∙ ap says same_study
    ∙ sym (crew_hears_its_study g a.other a.other_loads d a.other_there)
  where
    same_study : study_of a.one (crew_at a.one.crews c) ≡ study_of a.other (crew_at a.other.crews d)
    same_study = λ i. record {
      situation = a.situation i;
      counts = a.counts i;
      actions = a.actions i;
      tasks = (a.crew i).tasks;
      seed = (a.crew i).seed;
    }

said_alike : (allows : Said Study → Allowing) {said other : Said Study} → said ≡ other → Settles (allows said) → Alike (allows said) (allows other)
said_alike allows {said} e settles =
    subst (λ (s : Said Study). Alike (allows said) (allows s)) e record { same = λ r after. (λ p. p, λ p. p); equal = settles }

said_alike_one :
    (allows : Said Study → Answer → Type 0) {said other : Said Study} → said ≡ other → SettlesOne (allows said) → AlikeOne (allows said) (allows other)
said_alike_one allows {said} e settles =
    subst (λ (s : Said Study). AlikeOne (allows said) (allows s)) e record { same = λ r. (λ p. p, λ p. p); equal = settles }

-- whatever the two crews are numbered
pub agreeing_are_answered_alike : {f g : List ℕ} {c d : ℕ} → Agree f c g d → AnsweredAlike f c g d
agreeing_are_answered_alike {f} {g} {c} {d} a =
    let e = agreeing_say_the_same a in
    record {
      plan = λ ranks before. said_alike (λ s. PlansFile s ranks before) e (λ r r' after after' p q. file_plans_determined f c ranks before p q);
      seeded = λ before.
          said_alike (λ s. PlansSeeded s before) e (λ r r' after after' p q. file_plans_determined f c (seed_ranks (reading_for f c)) before p q);
      run = λ list before.
          said_alike (λ s. RunOn s list before) e (λ r r' after after' p q. (p.0 ∙ sym q.0, p.1 ∙ sym q.1));
      report = λ first n before. said_alike (λ s. ReportsOn s first n before) e (report_settles f c first n before);
      chart = λ actions pairs. said_alike_one (λ s. ChartsFile s (chart_of actions pairs)) e (chart_settled f c actions pairs);
      replay = λ log before. said_alike (λ s. ReplayOn s log before) e (replay_settles f c log before);
      journeys = λ ranks rides start before. said_alike (λ s. Travels s ranks rides start before) e (journeys_settles f c ranks rides start before);
    }

-- ---- refusals before planning, running and reporting

only_exactly : (answer : Answer) (bytes : List ℕ) → AllowsOnly (Exactly answer bytes) answer bytes
only_exactly answer bytes = record { allowed = (refl, refl); only = λ r after p. p }

journeys_refused :
    (ranks rides : List ℕ) (start : ℕ) (before : List ℕ) (number place : ℕ) → AllowsOnly (Travels (refused number place) ranks rides start before) (refusal number place) before
journeys_refused ranks rides start before number place = record {
  allowed = record { planned = no_plan (refusal number place); comes = refl; travelled = (refl, refl) };
  only = λ r after t. let e = t.comes in rw e at t.travelled;
}

refused-with : (file : List ℕ) (c number place : ℕ) → reading_for file c ≡ refused number place → RefusedWith file c (refusal number place)
refused-with file c number place e = record {
  plan = λ ranks before. rw e (only_exactly (refusal number place) before);
  seeded = λ before. rw e (only_exactly (refusal number place) before);
  run = λ list before. rw (e, ran-refused number place (length before) list) (only_exactly (refusal number place) before);
  report = λ first n before. rw e (only_exactly (refusal number place) before);
  chart = λ actions pairs r. rw e ((λ p. p), (λ p. p));
  replay = λ log before. rw (e, replayed-refused number place log) (only_exactly (refusal number place) before);
  journeys = λ ranks rides start before. rw e (journeys_refused ranks rides start before number place);
}

-- 22, first the crew's number
pub missing_crew_is_answered_22 :
    (file : List ℕ) (r : Roster) → LoadsAs file r → (c : ℕ) → length r.crews ≤ c → RefusedWith file c (refusal 22 c)
missing_crew_is_answered_22 file r loads c missing = refused-with file c 22 c (missing_crew_hears_22 file r loads c missing)

-- the file's own refusals come first: a fault anywhere in it, in whichever crew's records, is every crew's answer
pub refused_file_is_refused_for_every_crew :
    (file : List ℕ) (number place : ℕ) → reading file ≡ refused number place → (c : ℕ) → RefusedWith file c (refusal number place)
refused_file_is_refused_for_every_crew file number place e c =
    refused-with file c number place (every_crew_hears_the_refusal file number place e c)

-- ---- a crew alone

sole : (crews : List Crew) → length crews ≡ 1 → crews ≡ crew_at crews 0 ∷ []
sole [] e = absurd (omega arith)
sole (k ∷ []) e = refl
sole (k ∷ (l ∷ rest)) e = absurd (omega arith)

-- in a file of one crew, crew 0 hears all that the file says
pub crew_alone_hears_the_whole_file :
    (file : List ℕ) (r : Roster) → LoadsAs file r → length r.crews ≡ 1 → (t : Study) × (LoadsFor file 0 t × LoadsAs file (alone t))
crew_alone_hears_the_whole_file file r loads one = (
  study_of r (crew_at r.crews 0),
  (
    crew_hears_its_study file r loads 0 (omega arith),
    loads ∙ ap (λ (crews : List Crew). says record { situation = r.situation; counts = r.counts; actions = r.actions; crews = crews })
        (sole r.crews one),
  ),
)
