-- Journeys of document 02: those that the steps of a plan make, in plan order, of a person who begins on a floor; and their bytes.
-- Assumes nothing.
use Rattle.std.specs.Prelude.{ℕ, ◌+◌, List, [], ◌∷◌, ◌++◌, eqb}
use Rattle.std.proofs.Math.Option.{Option, none, some}
use Rattle.plain.specs.Choose.{pick}
use Rattle.rides.specs.Rides.{Ride}

pub record Journey : Type 0 where
  pub step : ℕ
  pub from : ℕ
  pub to : ℕ

abbrev pub journey : ℕ → ℕ → ℕ → Journey
journey step from to = record { step = step; from = from; to = to }

-- the ride that a list gives an action, if any; in a list without fault there is one at most
unfoldable pub ride_of : List Ride → ℕ → Option Ride
ride_of [] i = none
ride_of (r ∷ rest) i = pick (eqb r.action i) (some r) (ride_of rest i)

-- the ride itself, at a step
abbrev pub ridden : ℕ → Ride → Journey
ridden step r = journey step r.from r.to

-- a ride from the person's floor; from another floor it is preceded by a journey there, with the same step
unfoldable pub made : ℕ → ℕ → Ride → List Journey
made step floor r = pick (eqb floor r.from) (ridden step r ∷ []) (journey step floor r.from ∷ ridden step r ∷ [])

-- a step's journeys by its action's ride, and the floor after it
abbrev pub step_makes : ℕ → ℕ → Option Ride → List Journey
step_makes step floor none = []
step_makes step floor (some r) = made step floor r

abbrev pub floor_after : ℕ → Option Ride → ℕ
floor_after floor none = floor
floor_after floor (some r) = r.to

-- the journeys of the steps from one on
unfoldable pub journeys_from : (ℕ → Option Ride) → ℕ → ℕ → List ℕ → List Journey
journeys_from rides step floor [] = []
journeys_from rides step floor (i ∷ rest) =
    step_makes step floor (rides i) ++ journeys_from rides (step + 1) (floor_after floor (rides i)) rest

-- steps are numbered from 0
abbrev pub journeys_of : List Ride → ℕ → List ℕ → List Journey
journeys_of rides start plan = journeys_from (ride_of rides) 0 start plan

-- three bytes a journey
unfoldable pub bytes_of : List Journey → List ℕ
bytes_of [] = []
bytes_of (j ∷ rest) = j.step ∷ j.from ∷ j.to ∷ bytes_of rest
