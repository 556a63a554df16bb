-- What planning left in a room: a refusal that is the answer, or the plan from 256 on, whose journeys are then the answer.
-- Assumes nothing.
use Prim.Native.Nat.{ℕ, ◌≤◌, ◌<◌}
use native.Mathlib.Omega.{arith}
use mathlib.Core.Path.{◌≡◌, refl, sym, ap, ◌∙◌}
use mathlib.Core.Logic.{◌≢◌}
use mathlib.Core.List.{List}
use lib.ListN.{length, take, drop, length-drop}
use lib.Seq.{take_at}
use Rattle.answer.specs.Answers.{refusal}
use Rattle.answer.specs.declared.Answer.{Answer}
use Rattle.ranking.proofs.Fine.{fine_is_rank_list}
use Rattle.study.specs.Study.{Study}
use Rattle.study.specs.Reading.{Said, says, refused, reading_for}
use Rattle.study.proofs.Refusals.{NumberedIfHeard, heard_some, refusals_heard}
use Rattle.lawful.proofs.Loads.{LawfulIfHeard, hearing_lawful}
use Rattle.orders.specs.Orders.{In}
use Rattle.planning.specs.Planning.{PlansFile, PlanAllows}
use Rattle.planning.proofs.Found.{straight_usable, straight_plan_short}
use Rattle.rides.specs.Answers.{RidesAllow}
use Rattle.journeys.specs.Planned.{Planned, no_plan, the_plan, SaidPlansTo}
use Rattle.journeys.specs.Allowed.{JourneysAllows}
use Rattle.journeys.proofs.Plans.{plans_sound, answer_of, bytes_after, LaidDown, laid_down}

-- what a plan that was come to says of a rank list: an entry for each action, 256 steps at most, each an action
record Known (ranks : List ℕ) (actions : ℕ) (list : List ℕ) : Type 0 where
  many : actions ≡ length ranks
  few : length list ≤ 256
  low : (i : ℕ) → In i list → i < 256

abbrev Come : List ℕ → Planned → Type 0
Come ranks (no_plan r) = r.number ≢ 0
Come ranks (the_plan actions list) = Known ranks actions list

come : (said : Said Study) → LawfulIfHeard said → NumberedIfHeard said → (ranks : List ℕ) (p : Planned) → SaidPlansTo said ranks p → Come ranks p
come (refused number place) lawful numbered ranks p c = rw c (λ z. omega (arith, heard_some numbered, z))
come (says t) lawful numbered ranks (no_plan r) c = plans_sound c
come (says t) lawful numbered ranks (the_plan actions list) c =
    let s = plans_sound c in
    let straight = s.first_plan.straight in
    record {
      many = s.count ∙ sym (fine_is_rank_list s.fine).an_entry_for_each;
      few = straight_plan_short lawful straight;
      low = λ i h. omega (arith, (straight_usable straight i h).there, lawful.few_actions);
    }

-- the plan stands in the room from 256 on, and what its journeys answer is the answer
pub record InPlace (file : List ℕ) (crew : ℕ) (ranks : List ℕ) (r : Answer) (room : List ℕ) : Type 0 where
  pub long : length room ≡ 512
  pub few : r.first ≤ 256
  pub low : (i : ℕ) → In i (take r.first (drop 256 room)) → i < 256
  pub travels :
      (rides : List ℕ) (start : ℕ) (before : List ℕ) (answer : Answer) (after : List ℕ)
      → RidesAllow (length ranks) rides start (take r.first (drop 256 room)) before answer after
      → JourneysAllows file crew ranks rides start before answer after

module _
    (file : List ℕ) (crew : ℕ) (ranks : List ℕ) (r : Answer) (room : List ℕ)
    (sized : (t : Study) → reading_for file crew ≡ says t → length room ≡ 512) (allowed : PlanAllows file crew ranks (drop 256 room) r (drop 256 room))
  where
    laid : LaidDown (reading_for file crew) ranks (drop 256 room) r (drop 256 room)
    laid = go (reading_for file crew) (hearing_lawful file crew) sized allowed
      where
        go :
            (said : Said Study) → LawfulIfHeard said → ((t : Study) → said ≡ says t → length room ≡ 512) → PlansFile said ranks (drop 256 room) r (drop 256 room)
            → LaidDown said ranks (drop 256 room) r (drop 256 room)
        go (says t) lawful long p = laid_down ranks (drop 256 room) (omega (arith, long t refl, length-drop 256 room)) (says t) lawful p
        go (refused number place) lawful long p = record { planned = no_plan (refusal number place); comes = refl; answered = p.0; bytes = p.1 }

    whole : r.number ≡ 0 → length room ≡ 512
    whole z = go (reading_for file crew) (refusals_heard file crew) sized allowed
      where
        go :
            (said : Said Study) → NumberedIfHeard said → ((t : Study) → said ≡ says t → length room ≡ 512) → PlansFile said ranks (drop 256 room) r (drop 256 room)
            → length room ≡ 512
        go (says t) numbered long p = long t refl
        go (refused number place) numbered long p = absurd (omega (arith, heard_some numbered, ap (λ (a : Answer). a.number) p.0, z))

    come_to : Come ranks laid.planned
    come_to = come (reading_for file crew) (hearing_lawful file crew) (refusals_heard file crew) ranks laid.planned laid.comes

    -- a refusal
    pub refusal_travels : r.number ≢ 0 → (rides : List ℕ) (start : ℕ) (before : List ℕ) → JourneysAllows file crew ranks rides start before r before
    refusal_travels away rides start before = go laid.planned laid.comes laid.answered
      where
        go : (p : Planned) → SaidPlansTo (reading_for file crew) ranks p → r ≡ answer_of p → JourneysAllows file crew ranks rides start before r before
        go (no_plan s) c e = record { planned = no_plan s; comes = c; travelled = (e, refl) }
        go (the_plan actions list) c e = absurd (away (ap (λ (a : Answer). a.number) e))

    -- a plan
    pub in_place : r.number ≡ 0 → InPlace file crew ranks r room
    in_place z = go laid.planned laid.comes come_to laid.answered laid.bytes
      where
        go :
            (p : Planned) → SaidPlansTo (reading_for file crew) ranks p → Come ranks p → r ≡ answer_of p → drop 256 room ≡ bytes_after p (drop 256 room)
            → InPlace file crew ranks r room
        go (no_plan s) c away e f = absurd (away (ap (λ (a : Answer). a.number) (sym e) ∙ z))
        go (the_plan actions list) c known e f =
            let first : r.first ≡ length list = ap (λ (a : Answer). a.first) e in
            let front : take r.first (drop 256 room) ≡ list =
            ap (take r.first) f ∙ take_at list (drop (length list) (drop 256 room)) r.first (sym first) in
            record {
              long = whole z;
              few = omega (arith, first, known.few);
              low = λ i h. known.low i (rw front at h);
              travels = λ rides start before answer after allows.
                  record { planned = the_plan actions list; comes = c; travelled = rw (known.many, ← front) allows };
            }
