-- What is answered of rides: by the start floor, by the first ride at fault, or by the journeys that the tables make of the plan.
-- Assumes nothing.
use mathlib.Core.Path.{◌≡◌, refl, sym, ap, ◌∙◌}
use mathlib.Core.Option.{Option, none, some}
use mathlib.Core.List.{List}
use Prim.Native.Nat.{ℕ, ◌+◌, ◌-◌, ◌*◌, ◌/◌, ◌≤◌, ◌<◌}
use native.Mathlib.Omega.{arith}
use lib.ListN.{length, take, drop, replicate, length-replicate, get_or-replicate}
use Rattle.std.specs.Prelude.{Ok, Err}
use Rattle.answer.specs.Answers.{three}
use Rattle.answer.specs.declared.Answer.{Answer}
use Rattle.orders.specs.Orders.{In}
use Rattle.rides.specs.Rides.{rides_of, highest, ride_fault}
use Rattle.rides.specs.Journeys.{Journey, ride_of, journeys_from, bytes_of}
use Rattle.rides.specs.Answers.{Laid, UnlessFault, RidesAllow}
use Rattle.rides.proofs.Bytes.{length_bytes, whole_rides}
use Rattle.rides.proofs.Faults.{start_refused, start_on_floor}
use Rattle.rides.proofs.Told.{laid_fits, laid_short}
use Rattle.rides.proofs.Travelled.{same_journeys}
use Rattle.riding.specs.Tables.{no_floor, ride_in, Fresh, Holds, Placed, fault_told}

-- ---- 13, 0

pub short_laid :
    (journeys : List Journey) (before : List ℕ) (many : ℕ) (r : Answer) → many ≡ length journeys → length before < 3 * many → r ≡ three 13 (3 * many) 0
    → Laid journeys before r before
short_laid journeys before many r e h is =
    let f : three 13 (3 * many) 0 ≡ three 13 (3 * length journeys) 0 = ap (λ (n : ℕ). three 13 (3 * n) 0) e in
    rw (is ∙ f) (laid_short journeys before (omega (arith, e, h)))

pub fits_laid :
    (journeys : List Journey) (before after : List ℕ) (many : ℕ) (r : Answer) → many ≡ length journeys → 3 * many ≤ length before → r ≡ three 0 many 0
    → Placed before 0 (bytes_of journeys) after → Laid journeys before r after
fits_laid journeys before after many r e h is p =
    let f : three 0 many 0 ≡ three 0 (length journeys) 0 = ap (λ (n : ℕ). three 0 n 0) e in
    let n : 0 + length (bytes_of journeys) ≡ 3 * length journeys = omega (arith, length_bytes journeys) in
    rw (is ∙ f, p, n) (laid_fits journeys before (omega (arith, e, h)))

-- ---- tables as they are lent

pub fresh : {room : List ℕ} → length room ≡ 512 → Fresh (replicate 256 no_floor) room
fresh long = record {
  sized = record { froms_long = length-replicate 256 no_floor; tos_long = long };
  none_given = λ i h. get_or-replicate 256 i no_floor 0 h;
}

-- the plan is left where it stood
pub plan_kept : (steps : ℕ) (before after : List ℕ) → drop 256 after ≡ drop 256 before → take (256 + steps - 256) (drop 256 after) ≡ take steps (drop 256 before)
plan_kept steps before after kept = rw (kept, let n : 256 + steps - 256 ≡ steps = omega arith in n)

-- ---- the rides

module _ (actions : ℕ) (rides : List ℕ) (start : ℕ) (plan before : List ℕ) where
  pub start_answered : (r : Answer) → highest < start → r ≡ three 5 (length rides / 3) 0 → RidesAllow actions rides start plan before r before
  start_answered r h e =
      rw (start_refused actions rides start h) (e ∙ ap (λ (n : ℕ). three 5 n 0) (sym (whole_rides rides)), refl)

  module _ (floor : start ≤ highest) where
    pub fault_answered : (r : Answer) → Err r ≡ fault_told (ride_fault actions rides) → RidesAllow actions rides start plan before r before
    fault_answered r told = rw (start_on_floor actions rides start floor) (go (ride_fault actions rides) told)
      where
        go : (o : Option Answer) → Err r ≡ fault_told o → UnlessFault o (journeys_from (ride_of (rides_of rides)) 0 start plan) before r before
        go none e = absurd cc
        go (some s) e = (cc, refl)

    none_told : (u : Unit {0}) → Ok u ≡ fault_told (ride_fault actions rides) → ride_fault actions rides ≡ none
    none_told u told = go (ride_fault actions rides) told
      where
        go : (o : Option Answer) → Ok u ≡ fault_told o → o ≡ none
        go none e = refl
        go (some s) e = absurd cc

    pub journeys_answered :
        (u : Unit {0}) (froms tos : List ℕ) (answer : Answer) (after : List ℕ) → Ok u ≡ fault_told (ride_fault actions rides) → Holds (rides_of rides) froms tos
        → ((i : ℕ) → In i plan → i < 256)
        → Laid (journeys_from (ride_in froms tos) 0 start plan) before answer after → RidesAllow actions rides start plan before answer after
    journeys_answered u froms tos answer after told holds low laid =
        rw (start_on_floor actions rides start floor, none_told u told)
        (rw (same_journeys (ride_in froms tos) (ride_of (rides_of rides)) 0 start plan (λ i h. holds i (low i h))) at laid)
