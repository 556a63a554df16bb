-- Rides in order: each leads to another floor, and so none of their journeys stays; and an action has one at most.
-- Assumes nothing.
use mathlib.Core.Path.{◌≡◌}
use mathlib.Core.Logic.{◌≢◌}
use mathlib.Core.Option.{none}
use mathlib.Core.List.{List, [], ◌∷◌}
use Prim.Native.Nat.{ℕ, suc, ◌<◌}
use native.Mathlib.Omega.{arith}
use lib.Dec.{eqb}
use lib.ListN.{length}
use Rattle.plain.proofs.Tests.{picked}
use Rattle.rides.specs.Rides.{Ride, rides_of, ride_fault}
use Rattle.rides.specs.Journeys.{ride_of, journeys_of}
use Rattle.rides.specs.Words.{ride_at, NoneStays}
use Rattle.rides.proofs.Travelled.{Moves, none_stays}
use Rattle.rides.proofs.Faults.{in_order_exactly}

ride_moves : (rides : List Ride) → ((k : ℕ) → k < length rides → (ride_at rides k).from ≢ (ride_at rides k).to) → (i : ℕ) → Moves (ride_of rides i)
unfolding ride_of
ride_moves [] f i = tt
ride_moves (r ∷ rest) f i =
    picked Moves (eqb r.action i) (λ _. f 0 (omega arith)) (λ _. ride_moves rest (λ k h. f (suc k) (omega arith)) i)

-- no journey is from a floor to itself
pub none_stays_in_order :
    (actions : ℕ) (bytes : List ℕ) → ride_fault actions bytes ≡ none → (start : ℕ) (plan : List ℕ) → NoneStays (journeys_of (rides_of bytes) start plan)
none_stays_in_order actions bytes e start plan =
    let s = (in_order_exactly actions bytes).0 e in
    none_stays (ride_of (rides_of bytes)) (ride_moves (rides_of bytes) (λ k h. (s.each k h).leads.elsewhere)) 0 start plan
