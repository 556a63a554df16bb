-- Exchanges of two neighbouring steps join any two straight plans of one file and crew, each list on the way a straight plan; the chain is computed, and none is shorter.
-- Assumes nothing.
use mathlib.Core.Path.{◌≡◌}
use mathlib.Core.List.{List, [], ◌∷◌}
use Prim.Native.Nat.{ℕ}
use native.Mathlib.Omega.{arith}
use lib.ListN.{length}
use Rattle.study.specs.Study.{Study}
use Rattle.lawful.specs.Lawful.{Lawful}
use Rattle.lawful.proofs.Loads.{heard_lawful}
use Rattle.plans.specs.Plans.{StraightPlan}
use Rattle.orders.specs.Orders.{None, Order}
use Rattle.orders.proofs.Members.{order_takes, takes_distinct}
use Rattle.walks.specs.Walks.{OnAWalk, ComesBefore, Walks, Met}
use Rattle.walks.proofs.Ordered.{straight_is_order, straight_walks, straight_met}
use Rattle.walks.proofs.Straight.{order_is_straight}
use Rattle.swaps.specs.Swaps.{AllOrders, chain, differing}
use Rattle.swaps.proofs.Joined.{orders_joined}
use Rattle.swaps.proofs.Counted.{chain_counted, no_chain_is_shorter, differing_at_most, pairs_twice}
use Rattle.demands.specs.Words.{LoadsFor}
use Rattle.demands.specs.Swaps.{AllStraight, JoinedBy}

-- orders of the walks' actions are straight plans, each of them
all_straight :
    {t : Study} → Lawful t → Walks t → Met t → (lists : List (List ℕ)) → AllOrders (OnAWalk t) (ComesBefore t) None lists → AllStraight t lists
all_straight lawful walks met [] all = tt
all_straight lawful walks met (list ∷ rest) (order, all) = (order_is_straight lawful walks met list order, all_straight lawful walks met rest all)

module _ {t : Study} (lawful : Lawful t) (one other : List ℕ) (from : StraightPlan t one) (to : StraightPlan t other) where
  joined : JoinedBy t one other (chain one other)
  joined =
      let ordered = straight_is_order lawful from in
      let wanted = straight_is_order lawful to in
      let (exchanged, orders) = orders_joined (OnAWalk t) (ComesBefore t) one other ordered wanted in
      let many = chain_counted (OnAWalk t) (ComesBefore t) one other ordered wanted in
      let once = takes_distinct (OnAWalk t) (ComesBefore t) None other (order_takes (OnAWalk t) (ComesBefore t) None other wanted) in
      record {
        exchanged = exchanged;
        straight = all_straight lawful (straight_walks lawful from) (straight_met lawful from) (chain one other) orders;
        many = many;
        most = omega (arith, many, differing_at_most one other, pairs_twice (length one));
        fewest = λ others e. omega (arith, many, no_chain_is_shorter one other others once e);
      }

pub straight_plans_are_joined :
    (file : List ℕ) (crew : ℕ) (t : Study) → LoadsFor file crew t
    → (one other : List ℕ) → StraightPlan t one → StraightPlan t other
    → JoinedBy t one other (chain one other)
straight_plans_are_joined file crew t loads = joined (heard_lawful file crew t loads)
