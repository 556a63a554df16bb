-- What sweeping comes to: all walk actions were taken, or so many as can be.
-- Assumes nothing.
use Rattle.std.specs.Prelude.{ℕ, ◌≤◌, ◌<◌, ◌≡◌, List}
use Rattle.study.specs.Study.{Study}
use Rattle.plans.specs.Plans.{StraightPlan}
use Rattle.orders.specs.Orders.{OnRing}
use Rattle.walks.specs.Walks.{OnAWalk, ComesBefore}
use Rattle.planning.specs.Planning.{FreeOfRings}

-- r of the walk actions were taken: all, and there is a straight plan; or fewer, which are those that are on no ring and after none
pub record Swept (t : Study) (total r : ℕ) : Type 0 where
  pub most : r ≤ total
  pub all : r ≡ total → (list : List ℕ) × StraightPlan t list
  pub fewer : r < total → ((x : ℕ) × OnRing (OnAWalk t) (ComesBefore t) x) × FreeOfRings t r
