-- The journeys of a plan: each begins where the one before ended; without those that precede a ride they are the rides of the plan's steps; they are at most twice as many; and only rides of actions in the plan make any.
-- Assumes nothing.
use mathlib.Core.Path.{◌≡◌, refl, sym, ap, ◌∙◌}
use mathlib.Core.Logic.{◌≢◌, inl, inr}
use mathlib.Core.Option.{Option, none, some}
use mathlib.Core.List.{List, [], ◌∷◌, ◌++◌}
use Prim.Native.Nat.{ℕ, ◌+◌, ◌*◌, ◌≤◌}
use native.Mathlib.Omega.{arith}
use lib.Dec.{eqb}
use lib.ListN.{length, length-append}
use borrow.Author.Tests.{eqb-true, eqb-false, eq-eqb, ne_eqb}
use Rattle.plain.proofs.Tests.{picked}
use Rattle.orders.specs.Orders.{In}
use Rattle.rides.specs.Rides.{Ride}
use Rattle.rides.specs.Journeys.{Journey, journey, ridden, made, step_makes, floor_after, journeys_from}
use Rattle.rides.specs.Words.{NoneStays, Joined, its_ride, rides_from, unpreceded}

-- a ride, if there is one, leads to another floor
abbrev pub Moves : Option Ride → Type 0
Moves none = Unit {0}
Moves (some r) = r.from ≢ r.to

-- ---- one step

joined_step : (step floor : ℕ) (o : Option Ride) (rest : List Journey) → Joined (floor_after floor o) rest → Joined floor (step_makes step floor o ++ rest)
unfolding made
joined_step step floor none rest j = j
joined_step step floor (some r) rest j =
    picked (λ (list : List Journey). Joined floor (list ++ rest)) (eqb floor r.from) (λ e. (sym (eqb-true floor r.from e), j)) (λ _. (refl, (refl, j)))

none_stays_step : (step floor : ℕ) (o : Option Ride) (rest : List Journey) → Moves o → NoneStays rest → NoneStays (step_makes step floor o ++ rest)
unfolding made
none_stays_step step floor none rest m n = n
none_stays_step step floor (some r) rest m n =
    picked (λ (list : List Journey). NoneStays (list ++ rest)) (eqb floor r.from) (λ _. (m, n)) (λ e. (eqb-false floor r.from e, (m, n)))

-- the first journey, if there is one, is of this step or a later one
abbrev Later : ℕ → List Journey → Type 0
Later n [] = Unit {0}
Later n (j ∷ rest) = n ≤ j.step

later_more : {n m : ℕ} (list : List Journey) → n ≤ m → Later m list → Later n list
later_more [] h l = tt
later_more (j ∷ rest) h l = omega (arith, l)

later_step : (step floor : ℕ) (o : Option Ride) (rest : List Journey) → Later (step + 1) rest → Later step (step_makes step floor o ++ rest)
unfolding made
later_step step floor none rest l = later_more rest (omega arith) l
later_step step floor (some r) rest l =
    picked (λ (list : List Journey). Later step (list ++ rest)) (eqb floor r.from) (λ _. omega arith) (λ _. omega arith)

kept : (j : Journey) (rest : List Journey) → Later (j.step + 1) rest → unpreceded (j ∷ rest) ≡ j ∷ unpreceded rest
unfolding unpreceded
kept j [] l = refl
kept j (k ∷ rest) l = rw (ne_eqb j.step k.step (λ e. omega (arith, l, e)))

left_out : (j k : Journey) (rest : List Journey) → j.step ≡ k.step → unpreceded (j ∷ k ∷ rest) ≡ unpreceded (k ∷ rest)
unfolding unpreceded
left_out j k rest e = rw (eq-eqb j.step k.step e)

unpreceded_step :
    (step floor : ℕ) (o : Option Ride) (rest : List Journey) → Later (step + 1) rest
    → unpreceded (step_makes step floor o ++ rest) ≡ its_ride step o ++ unpreceded rest
unfolding made
unpreceded_step step floor none rest l = refl
unpreceded_step step floor (some r) rest l =
    picked (λ (list : List Journey). unpreceded (list ++ rest) ≡ ridden step r ∷ unpreceded rest) (eqb floor r.from) (λ _. kept (ridden step r) rest l)
    (λ _. left_out (journey step floor r.from) (ridden step r) rest refl ∙ kept (ridden step r) rest l)

step_twice : (step floor : ℕ) (o : Option Ride) → (length (step_makes step floor o) ≤ 2 * length (its_ride step o)) × (length (its_ride step o) ≤ length (step_makes step floor o))
unfolding made
step_twice step floor none = (omega arith, omega arith)
step_twice step floor (some r) =
    picked (λ (list : List Journey). (length list ≤ 2 * 1) × (1 ≤ length list)) (eqb floor r.from) (λ _. (omega arith, omega arith)) (λ _. (omega arith, omega arith))

module _ (rides : ℕ → Option Ride) where
  -- ---- each begins where the one before ended

  pub joined : (step floor : ℕ) (plan : List ℕ) → Joined floor (journeys_from rides step floor plan)
  unfolding journeys_from
  joined step floor [] = tt
  joined step floor (i ∷ plan) =
      joined_step step floor (rides i) (journeys_from rides (step + 1) (floor_after floor (rides i)) plan) (joined (step + 1) (floor_after floor (rides i)) plan)

  -- ---- none stays

  pub none_stays : ((i : ℕ) → Moves (rides i)) → (step floor : ℕ) (plan : List ℕ) → NoneStays (journeys_from rides step floor plan)
  unfolding journeys_from
  none_stays moves step floor [] = tt
  none_stays moves step floor (i ∷ plan) =
      none_stays_step step floor (rides i) (journeys_from rides (step + 1) (floor_after floor (rides i)) plan) (moves i)
      (none_stays moves (step + 1) (floor_after floor (rides i)) plan)

  -- ---- without those that precede a ride, the rides of the plan's steps

  later : (step floor : ℕ) (plan : List ℕ) → Later step (journeys_from rides step floor plan)
  unfolding journeys_from
  later step floor [] = tt
  later step floor (i ∷ plan) =
      later_step step floor (rides i) (journeys_from rides (step + 1) (floor_after floor (rides i)) plan) (later (step + 1) (floor_after floor (rides i)) plan)

  pub unpreceded_are_rides : (step floor : ℕ) (plan : List ℕ) → unpreceded (journeys_from rides step floor plan) ≡ rides_from rides step plan
  unfolding journeys_from rides_from unpreceded
  unpreceded_are_rides step floor [] = refl
  unpreceded_are_rides step floor (i ∷ plan) =
      let next = floor_after floor (rides i) in
      unpreceded_step step floor (rides i) (journeys_from rides (step + 1) next plan) (later (step + 1) next plan)
      ∙ ap (λ (list : List Journey). its_ride step (rides i) ++ list) (unpreceded_are_rides (step + 1) next plan)

  -- ---- at most twice as many, and not fewer

  pub at_most_twice :
      (step floor : ℕ) (plan : List ℕ)
      → (length (journeys_from rides step floor plan) ≤ 2 * length (rides_from rides step plan))
      × (length (rides_from rides step plan) ≤ length (journeys_from rides step floor plan))
  unfolding journeys_from rides_from
  at_most_twice step floor [] = (omega arith, omega arith)
  at_most_twice step floor (i ∷ plan) =
      let next = floor_after floor (rides i) in
      let (most, least) = step_twice step floor (rides i) in
      let (more, fewer) = at_most_twice (step + 1) next plan in
      let all = length-append (step_makes step floor (rides i)) (journeys_from rides (step + 1) next plan) in
      let its = length-append (its_ride step (rides i)) (rides_from rides (step + 1) plan) in
      (omega (arith, all, its, most, more), omega (arith, all, its, least, fewer))

  -- .. so at most two for each step
  pub rides_few : (step : ℕ) (plan : List ℕ) → length (rides_from rides step plan) ≤ length plan
  unfolding rides_from
  rides_few step [] = omega arith
  rides_few step (i ∷ plan) =
      omega (arith, length-append (its_ride step (rides i)) (rides_from rides (step + 1) plan), one_at_most (rides i), rides_few (step + 1) plan)
    where
      one_at_most : (o : Option Ride) → length (its_ride step o) ≤ 1
      one_at_most none = omega arith
      one_at_most (some r) = omega arith

-- rides that agree on the plan's actions make the same journeys, whatever they say of others
pub same_journeys :
    (rides others : ℕ → Option Ride) (step floor : ℕ) (plan : List ℕ) → ((i : ℕ) → In i plan → rides i ≡ others i)
    → journeys_from rides step floor plan ≡ journeys_from others step floor plan
unfolding journeys_from
same_journeys rides others step floor [] same = refl
same_journeys rides others step floor (i ∷ plan) same =
    let e = same i (inl refl) in
    rw e
    (ap (λ (list : List Journey). step_makes step floor (others i) ++ list)
    (same_journeys rides others (step + 1) (floor_after floor (others i)) plan (λ k h. same k (inr h))))
