-- For every file that loads and each of its crews: with answer 0 the journeys of the crew's plan are made as document 02 says; and what is told of the rides of a plan is told exactly by its rule.
-- Assumes nothing.
use Prim.Native.Nat.{ℕ, ◌*◌}
use native.Mathlib.Omega.{arith}
use mathlib.Core.Path.{◌≡◌, refl, sym, ap, ◌∙◌}
use mathlib.Core.Logic.{◌↔◌}
use mathlib.Core.List.{List}
use lib.ListN.{length, drop}
use lib.Seq.{take_at, drop_at}
use Rattle.answer.specs.declared.Answer.{Answer}
use Rattle.study.specs.Study.{Study}
use Rattle.study.specs.Reading.{says, reading_for}
use Rattle.planning.specs.Planning.{FirstPlan}
use Rattle.rides.specs.Rides.{rides_of}
use Rattle.rides.specs.Journeys.{Journey, ride_of, journeys_of, bytes_of}
use Rattle.rides.specs.Words.{Told, start_too_high, ride_at_fault, no_room, all_made}
use Rattle.rides.proofs.Bytes.{length_bytes}
use Rattle.rides.proofs.Faults.{fault_numbered, in_order_exactly}
use Rattle.rides.proofs.Moving.{none_stays_in_order}
use Rattle.rides.proofs.Told.{told_exactly}
use Rattle.rides.proofs.Travelled.{joined, unpreceded_are_rides, at_most_twice}
use Rattle.journeys.specs.Planned.{Planned, no_plan, the_plan, PlansTo, FilePlansTo}
use Rattle.journeys.specs.Allowed.{Travelled, JourneysAllows}
use Rattle.journeys.specs.Made.{Made}
use Rattle.journeys.proofs.Plans.{plan_is_one, plans_sound}

-- the rides of the crew's plan are told by their rules, and only so
pub journeys_told_exactly :
    (file : List ℕ) (crew : ℕ) (ranks rides : List ℕ) (start : ℕ) (before : List ℕ) (actions : ℕ) (plan : List ℕ)
    → FilePlansTo file crew ranks (the_plan actions plan) → (r : Answer) (after : List ℕ)
    → JourneysAllows file crew ranks rides start before r after ↔ Told actions rides start plan before r after
journeys_told_exactly file crew ranks rides start before actions plan comes r after = (
  λ t.
      let e = plan_is_one file crew ranks t.planned (the_plan actions plan) t.comes comes in
      (told_exactly actions rides start plan before r after).0 (rw e at t.travelled),
  λ t. record { planned = the_plan actions plan; comes = comes; travelled = (told_exactly actions rides start plan before r after).1 t },
)

module _ {t : Study} {ranks rides : List ℕ} {start : ℕ} {before : List ℕ} where
  told_made :
      {plan : List ℕ} {r : Answer} {after : List ℕ} → FirstPlan t ranks plan → Told (length t.actions) rides start plan before r after → r.number ≡ 0
      → Made t ranks rides start before r after
  told_made first (start_too_high h) e = absurd (omega arith)
  told_made first (ride_at_fault h f) e = absurd (omega (arith, fault_numbered f.fault))
  told_made first (no_room h o s) e = absurd (omega arith)
  told_made {plan} first (all_made h o fits) e =
      let journeys : List Journey = journeys_of (rides_of rides) start plan in
      let given = ride_of (rides_of rides) in
      let rest = drop (3 * length journeys) before in
      record {
        plan = plan;
        first_plan = first;
        on_floor = h;
        in_order = o;
        journeys = journeys;
        are_made = refl;
        count = refl;
        second = refl;
        in_front = take_at (bytes_of journeys) rest (3 * length journeys) (length_bytes journeys);
        later = drop_at (bytes_of journeys) rest (3 * length journeys) (length_bytes journeys);
        none_stays = none_stays_in_order (length t.actions) rides ((in_order_exactly (length t.actions) rides).1 o) start plan;
        joined = joined given 0 start plan;
        rides_in_order = unpreceded_are_rides given 0 start plan;
        at_most_twice = (at_most_twice given 0 start plan).0;
      }

  made :
      (p : Planned) {r : Answer} {after : List ℕ} → PlansTo t ranks p → Travelled p rides start before r after → r.number ≡ 0
      → Made t ranks rides start before r after
  made (no_plan s) c (e, f) z = absurd (plans_sound c (ap (λ (a : Answer). a.number) (sym e) ∙ z))
  made (the_plan actions plan) {r} {after} c l z =
      let s = plans_sound c in
      told_made s.first_plan (rw s.count at ((told_exactly actions rides start plan before r after).0 l)) z

pub answer_0_makes_journeys :
    (file : List ℕ) (crew : ℕ) (ranks rides : List ℕ) (start : ℕ) (before : List ℕ) (t : Study) → reading_for file crew ≡ says t
    → (r : Answer) (after : List ℕ) → JourneysAllows file crew ranks rides start before r after → r.number ≡ 0
    → Made t ranks rides start before r after
answer_0_makes_journeys file crew ranks rides start before t read r after a z =
    let c : PlansTo t ranks a.planned = rw read at a.comes in made a.planned c a.travelled z
