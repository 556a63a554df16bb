-- A step of the plan, by what the tables say of its action: the journeys that it makes, and how many they are with those of the steps that are left.
-- Assumes nothing.
use mathlib.Core.Path.{◌≡◌, refl, ap}
use mathlib.Core.Logic.{◌≢◌}
use mathlib.Core.Option.{Option, none, some}
use mathlib.Core.List.{List, [], ◌∷◌, ◌++◌}
use Prim.Native.Nat.{ℕ, ◌+◌, ◌*◌, ◌≤◌, ◌<◌}
use native.Mathlib.Numerals.{add-one}
use native.Mathlib.Omega.{arith}
use lib.ListN.{length, get_or, drop, length-append, drop_of_length-le}
use lib.Seq.{drop-cons}
use borrow.Author.Tests.{eq-eqb, ne_eqb}
use Rattle.rides.specs.Rides.{Ride, ride}
use Rattle.rides.specs.Journeys.{Journey, journey, made, step_makes, floor_after, journeys_from}
use Rattle.riding.specs.Tables.{no_floor, ride_in}

-- ---- one step

module _ (froms tos : List ℕ) (i : ℕ) where
  without_ride : get_or froms i 0 ≡ no_floor → ride_in froms tos i ≡ none
  unfolding ride_in
  without_ride e = rw (eq-eqb (get_or froms i 0) no_floor e)

  with_ride : get_or froms i 0 ≢ no_floor → ride_in froms tos i ≡ some (ride i (get_or froms i 0) (get_or tos i 0))
  unfolding ride_in
  with_ride d = rw (ne_eqb (get_or froms i 0) no_floor d)

module _ (i from to step floor : ℕ) where
  pub makes_one : floor ≡ from → step_makes step floor (some (ride i from to)) ≡ journey step from to ∷ []
  unfolding made
  makes_one e = rw (eq-eqb floor from e)

  pub makes_two : floor ≢ from → step_makes step floor (some (ride i from to)) ≡ journey step floor from ∷ journey step from to ∷ []
  unfolding made
  makes_two n = rw (ne_eqb floor from n)

-- whichever the action
pub same_makes : (step floor from to i j : ℕ) → step_makes step floor (some (ride i from to)) ≡ step_makes step floor (some (ride j from to))
unfolding made
same_makes step floor from to i j = refl

-- ---- the steps from one on

module _ (froms tos plan : List ℕ) (k floor i : ℕ) (h : k < length plan) (is : i ≡ get_or plan k 0) where
  abbrev those_left : ℕ → ℕ → List Journey
  those_left floor k = journeys_from (ride_in froms tos) k floor (drop k plan)

  next_step : those_left floor k ≡ step_makes k floor (ride_in froms tos i) ++ those_left (floor_after floor (ride_in froms tos i)) (k + 1)
  unfolding journeys_from
  next_step = rw (drop-cons plan k 0 h, is, add-one k)

  pub next_passed : get_or froms i 0 ≡ no_floor → those_left floor k ≡ those_left floor (k + 1)
  next_passed e = rw (without_ride froms tos i e) at next_step

  pub next_ridden :
      get_or froms i 0 ≢ no_floor
      → those_left floor k ≡ step_makes k floor (some (ride i (get_or froms i 0) (get_or tos i 0))) ++ those_left (get_or tos i 0) (k + 1)
  next_ridden d = rw (with_ride froms tos i d) at next_step

pub none_left : (given : ℕ → Option Ride) (plan : List ℕ) (k floor : ℕ) → length plan ≤ k → journeys_from given k floor (drop k plan) ≡ []
unfolding journeys_from
none_left given plan k floor h = rw (drop_of_length-le plan h)

-- ---- how many

-- the journeys of the first k steps and of those left are all
pub record CountedSoFar (plan froms tos : List ℕ) (start floor many k : ℕ) : Type 0 where
  pub few : k ≤ length plan
  pub most : many ≤ 2 * k
  pub left : many + length (journeys_from (ride_in froms tos) k floor (drop k plan)) ≡ length (journeys_from (ride_in froms tos) 0 start plan)

pub none_counted : {plan froms tos : List ℕ} {start : ℕ} → CountedSoFar plan froms tos start start 0 0
none_counted = record { few = omega arith; most = omega arith; left = omega arith }

module _
    {plan froms tos : List ℕ} {start floor many k i : ℕ} (c : CountedSoFar plan froms tos start floor many k) (h : k < length plan) (is : i ≡ get_or plan k 0)
  where
    pub one_passed : get_or froms i 0 ≡ no_floor → CountedSoFar plan froms tos start floor many (k + 1)
    one_passed e = record {
      few = omega arith;
      most = omega (arith, c.most);
      left = omega (arith, c.left, ap (length {A = Journey}) (next_passed froms tos plan k floor i h is e));
    }

    pub one_counted :
        {n : ℕ} → get_or froms i 0 ≢ no_floor → n ≤ 2 → n ≡ length (step_makes k floor (some (ride i (get_or froms i 0) (get_or tos i 0))))
        → CountedSoFar plan froms tos start (get_or tos i 0) (many + n) (k + 1)
    one_counted {n} d few-made many-made =
        let here = step_makes k floor (some (ride i (get_or froms i 0) (get_or tos i 0))) in
        let rest = journeys_from (ride_in froms tos) (k + 1) (get_or tos i 0) (drop (k + 1) plan) in
        record {
          few = omega arith;
          most = omega (arith, c.most);
          left = omega (arith, c.left, ap (length {A = Journey}) (next_ridden froms tos plan k floor i h is d), length-append here rest, many-made);
        }

pub all_counted :
    {plan froms tos : List ℕ} {start floor many k : ℕ} → CountedSoFar plan froms tos start floor many k → length plan ≤ k → length plan ≤ 256
    → (many ≤ 512) × (many ≡ length (journeys_from (ride_in froms tos) 0 start plan))
all_counted {plan} {froms} {tos} {start} {floor} {many} {k} c h few = (
  omega (arith, c.most, c.few),
  omega (arith, c.left, ap (length {A = Journey}) (none_left (ride_in froms tos) plan k floor h)),
)
