-- The straight plans are the orders of the walk actions that keep 'comes before', where every variable has a walk and every condition is on its walk.
-- Assumes nothing.
use Prim.Native.Nat.{ℕ}
use mathlib.Core.Logic.{◌↔◌}
use mathlib.Core.List.{List}
use Rattle.study.specs.Study.{Study}
use Rattle.lawful.specs.Lawful.{Lawful}
use Rattle.plans.specs.Plans.{StraightPlan}
use Rattle.orders.specs.Orders.{Order}
use Rattle.walks.specs.Walks.{OnAWalk, ComesBefore, Walks, Met}
use Rattle.walks.proofs.Ordered.{straight_walks, straight_met, straight_is_order}
use Rattle.walks.proofs.Straight.{order_is_straight}

pub straight_plans_are_orders :
    {t : Study} → Lawful t → (list : List ℕ) → StraightPlan t list ↔ (Walks t × (Met t × Order (OnAWalk t) (ComesBefore t) list))
straight_plans_are_orders lawful list = (
  λ p. (straight_walks lawful p, (straight_met lawful p, straight_is_order lawful p)),
  λ h. order_is_straight lawful h.0 h.1.0 list h.1.1,
)
