-- What answer 0 says of a crew's journeys: a straight plan, the first by rank; rides in order; the journeys in front of the buffer, one joined to the next, none that stays, and, without those that precede a ride, the rides of the plan's steps.
-- Assumes nothing.
use Rattle.std.specs.Prelude.{ℕ, ◌*◌, ◌≤◌, ◌≡◌, List, length, take, drop}
use Rattle.answer.specs.declared.Answer.{Answer}
use Rattle.study.specs.Study.{Study}
use Rattle.planning.specs.Planning.{FirstPlan}
use Rattle.rides.specs.Rides.{rides_of, highest}
use Rattle.rides.specs.Journeys.{Journey, ride_of, journeys_of, bytes_of}
use Rattle.rides.specs.Words.{AllInOrder, NoneStays, Joined, rides_from, unpreceded}

pub record Made (t : Study) (ranks rides : List ℕ) (start : ℕ) (before : List ℕ) (r : Answer) (after : List ℕ) : Type 0 where
  pub plan : List ℕ
  pub first_plan : FirstPlan t ranks plan
  pub on_floor : start ≤ highest
  pub in_order : AllInOrder (length t.actions) rides
  pub journeys : List Journey
  pub are_made : journeys ≡ journeys_of (rides_of rides) start plan
  pub count : r.first ≡ length journeys
  pub second : r.second ≡ 0
  pub in_front : take (3 * r.first) after ≡ bytes_of journeys
  pub later : drop (3 * r.first) after ≡ drop (3 * r.first) before
  pub none_stays : NoneStays journeys
  pub joined : Joined start journeys
  pub rides_in_order : unpreceded journeys ≡ rides_from (ride_of (rides_of rides)) 0 plan
  pub at_most_twice : length journeys ≤ 2 * length (rides_from (ride_of (rides_of rides)) 0 plan)
