-- Two results that making journeys may give are equal, there is one, and a refusal leaves the buffer as it was lent. Changing the rides changes no plan.
-- Assumes nothing.
use mathlib.Core.Path.{◌≡◌, sym, ap, ◌∙◌}
use mathlib.Core.List.{List}
use Prim.Native.Nat.{ℕ}
use Rattle.answer.specs.Allowing.{Settles, Answers, RefusalAltersNothing}
use Rattle.answer.specs.declared.Answer.{Answer}
use Rattle.study.specs.Reading.{reading_for}
use Rattle.lawful.proofs.Loads.{hearing_lawful}
use Rattle.rides.proofs.Settled.{AllowsOne, refused-one, rides_one}
use Rattle.journeys.specs.Planned.{Planned, no_plan, the_plan, SaidPlansTo}
use Rattle.journeys.specs.Allowed.{Travelled, JourneysAllows}
use Rattle.journeys.proofs.Plans.{said_plans_to_some, plan_is_one}

travelled_one : (p : Planned) (rides : List ℕ) (start : ℕ) (before : List ℕ) → AllowsOne before (Travelled p rides start before)
travelled_one (no_plan r) rides start before = refused-one r
travelled_one (the_plan actions list) rides start before = rides_one actions rides start list before

module _ (file : List ℕ) (crew : ℕ) (ranks rides : List ℕ) (start : ℕ) (before : List ℕ) where
  comes_to_lem : (p : Planned) × SaidPlansTo (reading_for file crew) ranks p
  comes_to_lem = said_plans_to_some (reading_for file crew) (hearing_lawful file crew) ranks

  one : AllowsOne before (Travelled comes_to_lem.0 rides start before)
  one = travelled_one comes_to_lem.0 rides start before

  only : (r : Answer) (after : List ℕ) → JourneysAllows file crew ranks rides start before r after → (r ≡ one.answer) × (after ≡ one.bytes)
  only r after t =
      let e = plan_is_one file crew ranks t.planned comes_to_lem.0 t.comes comes_to_lem.1 in
      one.only_it.only r after (rw e at t.travelled)

  pub journeys_settles : Settles (JourneysAllows file crew ranks rides start before)
  journeys_settles r r' after after' p q =
      let (a, b) = only r after p in
      let (c, d) = only r' after' q in
      (a ∙ sym c, b ∙ sym d)

  pub journeys_answers : Answers (JourneysAllows file crew ranks rides start before)
  journeys_answers = record {
    answer = one.answer;
    bytes = one.bytes;
    allowed = record { planned = comes_to_lem.0; comes = comes_to_lem.1; travelled = one.only_it.allowed };
  }

  pub refusal_as_lent : RefusalAltersNothing (JourneysAllows file crew ranks rides start before) before
  refusal_as_lent r after p h =
      let (a, b) = only r after p in
      b ∙ one.unaltered (λ e. h (ap (λ (answer : Answer). answer.number) a ∙ e))

-- the plan whose steps are travelled, or its refusal, is the same whatever rides, start floor and buffer are lent
pub rides_move_no_plan :
    (file : List ℕ) (crew : ℕ) (ranks rides rides' : List ℕ) (start start' : ℕ) (before before' after after' : List ℕ) (r r' : Answer)
    (p : JourneysAllows file crew ranks rides start before r after) (q : JourneysAllows file crew ranks rides' start' before' r' after')
    → p.planned ≡ q.planned
rides_move_no_plan file crew ranks rides rides' start start' before before' after after' r r' p q =
    plan_is_one file crew ranks p.planned q.planned p.comes q.comes

-- .. and so a refusal of the plan is that of every list of rides
pub plan_refused_alike :
    (file : List ℕ) (crew : ℕ) (ranks rides : List ℕ) (start : ℕ) (before after : List ℕ) (r refused : Answer) → SaidPlansTo (reading_for file crew) ranks (no_plan refused)
    → JourneysAllows file crew ranks rides start before r after → (r ≡ refused) × (after ≡ before)
plan_refused_alike file crew ranks rides start before after r refused c t =
    let e = plan_is_one file crew ranks t.planned (no_plan refused) t.comes c in rw e at t.travelled
