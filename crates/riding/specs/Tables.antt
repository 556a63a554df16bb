-- Rides in two tables by action, of the floors from and to; 255 stands where an action has none. The floors to stand in the first half of a room.
-- Assumes nothing.
use Rattle.std.specs.Prelude.{ℕ, ◌+◌, ◌<◌, ◌≡◌, List, ◌++◌, eqb, length, get_or, take, drop, Result, Ok, Err}
use Rattle.std.proofs.Math.Option.{Option, none, some}
use Rattle.plain.specs.Choose.{pick}
use Rattle.answer.specs.Answers.{number_of}
use Rattle.answer.specs.declared.Answer.{Answer}
use Rattle.answer.specs.declared.Rule.{Rule}
use Rattle.rides.specs.Rides.{Ride, ride}
use Rattle.rides.specs.Journeys.{ride_of}

abbrev pub no_floor : ℕ
no_floor = 255

-- the ride that two entries stand for
abbrev pub ride_by : ℕ → ℕ → ℕ → Option Ride
ride_by i from to = pick (eqb from no_floor) none (some (ride i from to))

-- the ride that the tables give an action
unfoldable pub ride_in : List ℕ → List ℕ → ℕ → Option Ride
ride_in froms tos i = ride_by i (get_or froms i 0) (get_or tos i 0)

-- the tables are whole
pub record Sized (froms tos : List ℕ) : Type 0 where
  pub froms_long : length froms ≡ 256
  pub tos_long : length tos ≡ 512

-- they have no ride
pub record Fresh (froms tos : List ℕ) : Type 0 where
  pub sized : Sized froms tos
  pub none_given : (i : ℕ) → i < 256 → get_or froms i 0 ≡ no_floor

-- they give each action the ride that the list gives it
abbrev pub Holds : List Ride → List ℕ → List ℕ → Type 0
Holds rides froms tos = (i : ℕ) → i < 256 → ride_in froms tos i ≡ ride_of rides i

-- bytes put at a place, and the others as they were
abbrev pub Placed : List ℕ → ℕ → List ℕ → List ℕ → Type 0
Placed before at bytes after = after ≡ take at before ++ (bytes ++ drop (at + length bytes) before)

-- the number of the rule that a ride was told to break, or 0
abbrev pub number_told : Result Unit Rule → ℕ
number_told (Ok done) = 0
number_told (Err rule) = number_of rule

-- what is told of a fault, or that there is none
abbrev pub fault_told : Option Answer → Result Unit Answer
fault_told none = Ok tt
fault_told (some r) = Err r
