-- What is answered of rides once there is a plan, exactly: each refusal by its rule and only then, and 0 with the journeys where none applies.
-- Assumes nothing.
use mathlib.Core.Path.{refl}
use mathlib.Core.Logic.{◌↔◌}
use mathlib.Core.Option.{Option}
use mathlib.Core.List.{List, ◌++◌}
use Prim.Native.Nat.{ℕ, ◌*◌, ◌≤◌, ◌<◌}
use native.Mathlib.Omega.{arith}
use native.Mathlib.Decide.{dec_le}
use lib.ListN.{length, drop}
use borrow.Author.Tests.{le-leb, lt-leb}
use Rattle.answer.specs.Answers.{done, refusal}
use Rattle.answer.specs.declared.Answer.{Answer}
use Rattle.rides.specs.Rides.{rides_of, highest}
use Rattle.rides.specs.Journeys.{Journey, journeys_of, bytes_of}
use Rattle.rides.specs.Answers.{Laid, UnlessFault, RidesAllow}
use Rattle.rides.specs.Words.{AllInOrder, Told, start_too_high, ride_at_fault, no_room, all_made}
use Rattle.rides.proofs.Bytes.{length_bytes}
use Rattle.rides.proofs.Faults.{Tells, faulty, sound, tells, start_refused, start_on_floor, refused_exactly, in_order_exactly}

-- laid with the bytes counted
pub laid_fits :
    (journeys : List Journey) (before : List ℕ) → 3 * length journeys ≤ length before
    → Laid journeys before (done (length journeys) 0) (bytes_of journeys ++ drop (3 * length journeys) before)
laid_fits journeys before h =
    rw (length_bytes journeys, le-leb (3 * length journeys) (length before) h) (refl, refl)

pub laid_short :
    (journeys : List Journey) (before : List ℕ) → length before < 3 * length journeys → Laid journeys before (refusal 13 (3 * length journeys)) before
laid_short journeys before h = rw (length_bytes journeys, lt-leb (3 * length journeys) (length before) h) (refl, refl)

module _ (actions : ℕ) (rides : List ℕ) (start : ℕ) (plan before : List ℕ) where
  abbrev all : List Journey
  all = journeys_of (rides_of rides) start plan

  allowed : (r : Answer) (after : List ℕ) → Told actions rides start plan before r after → RidesAllow actions rides start plan before r after
  allowed r after (start_too_high h) = rw (start_refused actions rides start h) (refl, refl)
  allowed r after (ride_at_fault {n = n} {k = k} h f) = rw (start_on_floor actions rides start h, (refused_exactly actions rides n k).1 f) (refl, refl)
  allowed r after (no_room h o short) = rw (start_on_floor actions rides start h, (in_order_exactly actions rides).1 o) (laid_short all before short)
  allowed r after (all_made h o fits) = rw (start_on_floor actions rides start h, (in_order_exactly actions rides).1 o) (laid_fits all before fits)

  laid_told :
      (r : Answer) (after : List ℕ) → start ≤ highest → AllInOrder actions rides → Laid all before r after → Told actions rides start plan before r after
  laid_told r after h o l = go (dec_le (3 * length all) (length before))
    where
      go : Dec (3 * length all ≤ length before) → Told actions rides start plan before r after
      go (yes fits) =
          let (e, f) = rw (length_bytes all, le-leb (3 * length all) (length before) fits) at l in
          rw (e, f) (all_made h o fits)
      go (no short) =
          let less : length before < 3 * length all = omega (arith, short) in
          let (e, f) = rw (length_bytes all, lt-leb (3 * length all) (length before) less) at l in
          rw (e, f) (no_room h o less)

  by_ride :
      (r : Answer) (after : List ℕ) → start ≤ highest → {o : Option Answer} → Tells actions rides o → UnlessFault o all before r after
      → Told actions rides start plan before r after
  by_ride r after h (faulty f) (e, g) = rw (e, g) (ride_at_fault h f)
  by_ride r after h (sound s) l = laid_told r after h s l

  told : (r : Answer) (after : List ℕ) → RidesAllow actions rides start plan before r after → Told actions rides start plan before r after
  told r after a = go (dec_le start highest)
    where
      go : Dec (start ≤ highest) → Told actions rides start plan before r after
      go (yes h) = by_ride r after h (tells actions rides) (rw (start_on_floor actions rides start h) at a)
      go (no h) =
          let high : highest < start = omega (arith, h) in
          let (e, f) = rw (start_refused actions rides start high) at a in
          rw (e, f) (start_too_high high)

  pub told_exactly : (r : Answer) (after : List ℕ) → RidesAllow actions rides start plan before r after ↔ Told actions rides start plan before r after
  told_exactly r after = (told r after, allowed r after)
