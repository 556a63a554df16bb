-- With answer 0 the journeys lie within the buffer; and 1,536 bytes are room for those of any plan, so that 13 is not answered.
-- Assumes nothing.
use Prim.Native.Nat.{ℕ, ◌*◌, ◌≤◌}
use native.Mathlib.Omega.{arith}
use mathlib.Core.Path.{◌≡◌, sym, ap, ◌∙◌}
use mathlib.Core.Logic.{◌≢◌}
use mathlib.Core.List.{List}
use lib.ListN.{length}
use Rattle.answer.specs.declared.Answer.{Answer}
use Rattle.study.specs.Study.{Study}
use Rattle.study.specs.Reading.{Said, says, refused, reading_for}
use Rattle.study.proofs.Refusals.{NumberedIfHeard, heard_some, heard_outside, refusals_heard}
use Rattle.lawful.proofs.Loads.{LawfulIfHeard, hearing_lawful}
use Rattle.rides.specs.Rides.{Ride, rides_of}
use Rattle.rides.specs.Journeys.{ride_of, journeys_of}
use Rattle.rides.specs.Words.{Fault, cut_short, not_there, no_floor_lem, own_floor, second_ride, Told, start_too_high, ride_at_fault, no_room, all_made}
use Rattle.rides.proofs.Faults.{fault_numbered}
use Rattle.rides.proofs.Told.{told_exactly}
use Rattle.rides.proofs.Travelled.{at_most_twice, rides_few}
use Rattle.journeys.specs.Planned.{Planned, no_plan, the_plan, PlansTo, wrong_length, wrong_entry, no_walk, off_walk_lem, ring, a_plan, SaidPlansTo}
use Rattle.journeys.specs.Allowed.{Travelled, JourneysAllows}
use Rattle.planning.proofs.Found.{straight_plan_short}
use Rattle.journeys.proofs.Plans.{plans_sound, answer_of}

-- two for each step at most
pub few_journeys : (rides : List Ride) (start : ℕ) (plan : List ℕ) → length (journeys_of rides start plan) ≤ 2 * length plan
few_journeys rides start plan = omega (arith, (at_most_twice (ride_of rides) 0 start plan).0, rides_few (ride_of rides) 0 plan)

-- ---- 0

refused_some : (said : Said Study) → NumberedIfHeard said → (ranks : List ℕ) (r : Answer) → SaidPlansTo said ranks (no_plan r) → r.number ≢ 0
refused_some (says t) numbered ranks r c = plans_sound c
refused_some (refused number place) numbered ranks r c = λ z. omega (arith, heard_some numbered, z, ap (λ (p : Planned). (answer_of p).number) c)

told_fits :
    {actions start : ℕ} {rides plan before after : List ℕ} {r : Answer} → Told actions rides start plan before r after → r.number ≡ 0
    → 3 * r.first ≤ length before
told_fits (start_too_high h) z = absurd (omega arith)
told_fits (ride_at_fault h f) z = absurd (omega (arith, fault_numbered f.fault))
told_fits (no_room h o s) z = absurd (omega arith)
told_fits (all_made h o fits) z = fits

pub answer_0_fits :
    (file : List ℕ) (crew : ℕ) (ranks rides : List ℕ) (start : ℕ) (before : List ℕ) (r : Answer) (after : List ℕ)
    → JourneysAllows file crew ranks rides start before r after → r.number ≡ 0 → 3 * r.first ≤ length before
answer_0_fits file crew ranks rides start before r after t z = go t.planned t.comes t.travelled
  where
    go : (p : Planned) → SaidPlansTo (reading_for file crew) ranks p → Travelled p rides start before r after → 3 * r.first ≤ length before
    go (no_plan s) c (e, f) =
        absurd (refused_some (reading_for file crew) (refusals_heard file crew) ranks s c (ap (λ (a : Answer). a.number) (sym e) ∙ z))
    go (the_plan actions plan) c l = told_fits ((told_exactly actions rides start plan before r after).0 l) z

-- ---- 13

abbrev NotThirteen : Planned → Type 0
NotThirteen (no_plan r) = r.number ≢ 13
NotThirteen (the_plan actions plan) = length plan ≤ 256

plans_not_13 : {t : Study} {ranks : List ℕ} {p : Planned} → LawfulIfHeard (says t) → PlansTo t ranks p → NotThirteen p
plans_not_13 lawful (wrong_length e) = λ z. omega arith
plans_not_13 lawful (wrong_entry e) = λ z. omega arith
plans_not_13 lawful (no_walk fine l) = λ z. omega arith
plans_not_13 lawful (off_walk_lem fine walks l) = λ z. omega arith
plans_not_13 lawful (ring fine walks met x n) = λ z. omega arith
plans_not_13 lawful (a_plan fine p) = straight_plan_short lawful p.straight

said_not_13 :
    (said : Said Study) → LawfulIfHeard said → NumberedIfHeard said → (ranks : List ℕ) (p : Planned) → SaidPlansTo said ranks p → NotThirteen p
said_not_13 (says t) lawful numbered ranks p c = plans_not_13 lawful c
said_not_13 (refused number place) lawful numbered ranks p c = rw c (heard_outside numbered 13 (omega arith) (omega arith))

fault_not_13 : {actions k n : ℕ} {bytes : List ℕ} → Fault actions bytes k n → n ≢ 13
fault_not_13 (cut_short c e) z = omega arith
fault_not_13 (not_there w h) z = omega arith
fault_not_13 (no_floor_lem a h) z = omega arith
fault_not_13 (own_floor f e) z = omega arith
fault_not_13 (second_ride l a) z = omega arith

told_not_13 :
    {actions start : ℕ} {rides plan before after : List ℕ} {r : Answer} → length plan ≤ 256 → 1536 ≤ length before
    → Told actions rides start plan before r after → r.number ≢ 13
told_not_13 few room (start_too_high h) z = omega arith
told_not_13 few room (ride_at_fault h f) z = fault_not_13 f.fault z
told_not_13 {start = start} {rides = rides} {plan = plan} few room (no_room h o s) z = omega (arith, few_journeys (rides_of rides) start plan)
told_not_13 few room (all_made h o fits) z = omega arith

pub never_13 :
    (file : List ℕ) (crew : ℕ) (ranks rides : List ℕ) (start : ℕ) (before : List ℕ) (r : Answer) (after : List ℕ) → 1536 ≤ length before
    → JourneysAllows file crew ranks rides start before r after → r.number ≢ 13
never_13 file crew ranks rides start before r after room t =
    go t.planned (said_not_13 (reading_for file crew) (hearing_lawful file crew) (refusals_heard file crew) ranks t.planned t.comes) t.travelled
  where
    go : (p : Planned) → NotThirteen p → Travelled p rides start before r after → r.number ≢ 13
    go (no_plan s) n (e, f) z = n (ap (λ (a : Answer). a.number) (sym e) ∙ z)
    go (the_plan actions plan) n l z = told_not_13 n room ((told_exactly actions rides start plan before r after).0 l) z
