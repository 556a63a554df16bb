-- Words that the theorems on rides and journeys share: a ride in order and the faults, each where those before it are not; journeys that join, none that stays, rides without what precedes them.
-- Assumes nothing.
use Rattle.std.specs.Prelude.{ℕ, ◌+◌, ◌*◌, ◌≤◌, ◌<◌, ◌≡◌, ◌⊎◌, ◌≢◌, true, false, List, [], ◌∷◌, ◌++◌, eqb, length, get_or, drop}
use Rattle.std.proofs.Math.Option.{Option, none, some}
use Rattle.plain.specs.Choose.{pick}
use Rattle.answer.specs.Answers.{done, refusal}
use Rattle.answer.specs.declared.Answer.{Answer}
use Rattle.rides.specs.Rides.{Ride, ride, rides_of, cut_short_lem, highest}
use Rattle.rides.specs.Journeys.{Journey, ridden, journeys_of, bytes_of}

-- ---- a list of rides

abbrev pub ride_at : List Ride → ℕ → Ride
ride_at rides k = get_or rides k (ride 0 0 0)

-- an earlier ride is of the same action
abbrev pub Again : List Ride → ℕ → Type 0
Again rides k = (j : ℕ) × ((j < k) × ((ride_at rides j).action ≡ (ride_at rides k).action))

-- ride k is whole and its action there; then its floors are floors; then it leads to another floor; then it is its action's first
pub record ActionThere (actions : ℕ) (rides : List Ride) (k : ℕ) : Type 0 where
  pub whole : k < length rides
  pub there : (ride_at rides k).action < actions

pub record OnFloors (actions : ℕ) (rides : List Ride) (k : ℕ) : Type 0 where
  pub action : ActionThere actions rides k
  pub from_floor : (ride_at rides k).from ≤ highest
  pub to_floor : (ride_at rides k).to ≤ highest

pub record Leads (actions : ℕ) (rides : List Ride) (k : ℕ) : Type 0 where
  pub floors : OnFloors actions rides k
  pub elsewhere : (ride_at rides k).from ≢ (ride_at rides k).to

pub record InOrder (actions : ℕ) (rides : List Ride) (k : ℕ) : Type 0 where
  pub leads : Leads actions rides k
  pub first : Again rides k → ⊥

-- ride k is refused with a number: 1, 14, 5, 6 or 7
pub data Fault (actions : ℕ) (bytes : List ℕ) (k : ℕ) : ℕ → Type 0 where
  cut_short : cut_short_lem bytes ≡ true → k ≡ length (rides_of bytes) → Fault actions bytes k 1
  not_there : k < length (rides_of bytes) → actions ≤ (ride_at (rides_of bytes) k).action → Fault actions bytes k 14
  no_floor_lem :
      ActionThere actions (rides_of bytes) k → (highest < (ride_at (rides_of bytes) k).from) ⊎ (highest < (ride_at (rides_of bytes) k).to)
      → Fault actions bytes k 5
  own_floor : OnFloors actions (rides_of bytes) k → (ride_at (rides_of bytes) k).from ≡ (ride_at (rides_of bytes) k).to → Fault actions bytes k 6
  second_ride : Leads actions (rides_of bytes) k → Again (rides_of bytes) k → Fault actions bytes k 7

-- .. and is the first that is
pub record FirstFault (actions : ℕ) (bytes : List ℕ) (n k : ℕ) : Type 0 where
  pub fault : Fault actions bytes k n
  pub before : (j : ℕ) → j < k → InOrder actions (rides_of bytes) j

-- each ride is in order, and none is cut short
pub record AllInOrder (actions : ℕ) (bytes : List ℕ) : Type 0 where
  pub whole : cut_short_lem bytes ≡ false
  pub each : (k : ℕ) → k < length (rides_of bytes) → InOrder actions (rides_of bytes) k

-- ---- the answer

-- of a plan: the start floor is none, with the number of whole rides; or a ride is the first at fault; or the journeys find no room, with the bytes needed; or they are made
pub data Told (actions : ℕ) (rides : List ℕ) (start : ℕ) (plan before : List ℕ) : Answer → List ℕ → Type 0 where
  start_too_high : highest < start → Told actions rides start plan before (refusal 5 (length (rides_of rides))) before
  ride_at_fault : {n k : ℕ} → start ≤ highest → FirstFault actions rides n k → Told actions rides start plan before (refusal n k) before
  no_room :
      start ≤ highest → AllInOrder actions rides → length before < 3 * length (journeys_of (rides_of rides) start plan)
      → Told actions rides start plan before (refusal 13 (3 * length (journeys_of (rides_of rides) start plan))) before
  all_made :
      start ≤ highest → AllInOrder actions rides → 3 * length (journeys_of (rides_of rides) start plan) ≤ length before
      → Told actions rides start plan before (done (length (journeys_of (rides_of rides) start plan)) 0)
      (bytes_of (journeys_of (rides_of rides) start plan) ++ drop (3 * length (journeys_of (rides_of rides) start plan)) before)

-- ---- journeys

-- no journey is from a floor to itself
abbrev pub NoneStays : List Journey → Type 0
NoneStays [] = Unit {0}
NoneStays (j ∷ rest) = (j.from ≢ j.to) × NoneStays rest

-- each begins where the one before ended, the first on this floor
abbrev pub Joined : ℕ → List Journey → Type 0
Joined floor [] = Unit {0}
Joined floor (j ∷ rest) = (j.from ≡ floor) × Joined j.to rest

-- the rides of the plan's steps from one on, in order
abbrev pub its_ride : ℕ → Option Ride → List Journey
its_ride step none = []
its_ride step (some r) = ridden step r ∷ []

unfoldable pub rides_from : (ℕ → Option Ride) → ℕ → List ℕ → List Journey
rides_from rides step [] = []
rides_from rides step (i ∷ rest) = its_ride step (rides i) ++ rides_from rides (step + 1) rest

-- a journey that precedes a ride stands before another of the same step: such journeys left out
unfoldable pub unpreceded : List Journey → List Journey
unpreceded [] = []
unpreceded (j ∷ []) = j ∷ []
unpreceded (j ∷ k ∷ rest) = pick (eqb j.step k.step) (unpreceded (k ∷ rest)) (j ∷ unpreceded (k ∷ rest))
