-- Straight plans are equally long, have 256 steps at most and use no action out of force; taking the least rank first finds the first of them where it takes every walk action, and a ring where it is stuck.
-- Assumes nothing.
use Prim.Native.Nat.{ℕ, ◌≤◌}
use native.Mathlib.Omega.{arith}
use mathlib.Core.Path.{◌≡◌, sym, ◌∙◌}
use mathlib.Core.Bool.{false, true≢false}
use mathlib.Core.List.{List}
use lib.ListN.{length}
use Rattle.ranks.specs.Ranks.{RankList}
use Rattle.study.specs.Study.{Study, in_force, action_at}
use Rattle.lawful.specs.Lawful.{Lawful}
use Rattle.plans.specs.Plans.{Usable, start_state, StraightPlan}
use Rattle.orders.specs.Orders.{In, None, Takes, OnRing, Greedy}
use Rattle.orders.proofs.Lists.{distinct_below}
use Rattle.orders.proofs.Members.{all_taken_is_order, orders_equally_long, order_distinct}
use Rattle.orders.proofs.Grown.{by_all, NoneReady, none_ready_same, greedy_so_far, greedy_so_far_takes, greedy_none_ready}
use Rattle.orders.proofs.First.{rank_list_tells_apart, first_antisym, greedy_first}
use Rattle.orders.proofs.Stuck.{stuck_counts, stuck_has_ring}
use Rattle.walks.specs.Walks.{OnAWalk, ComesBefore, Walks, Met}
use Rattle.walks.proofs.Leads.{on_walk_usable}
use Rattle.walks.proofs.Steps.{runs_usable}
use Rattle.walks.proofs.Ordered.{straight_is_order}
use Rattle.walks.proofs.Straight.{order_is_straight}
use Rattle.planning.specs.Planning.{FreeOfRings, rank_in, FirstPlan}
use Rattle.planning.proofs.Decided.{comes_before_decided}

pub straight_equally_long : {t : Study} {xs ys : List ℕ} → Lawful t → StraightPlan t xs → StraightPlan t ys → length xs ≡ length ys
straight_equally_long {t} {xs} {ys} lawful p q =
    orders_equally_long (OnAWalk t) (ComesBefore t) xs ys (straight_is_order lawful p) (straight_is_order lawful q)

pub straight_usable : {t : Study} {list : List ℕ} → StraightPlan t list → (x : ℕ) → In x list → Usable t x
straight_usable {t} {list} p = runs_usable t (start_state t) list p.plan.end p.plan.runs

-- no action stands on a straight plan twice
pub straight_plan_short : {t : Study} {list : List ℕ} → Lawful t → StraightPlan t list → length list ≤ 256
straight_plan_short {t} {list} lawful straight =
    omega (
      arith,
      distinct_below list (length t.actions) (order_distinct (OnAWalk t) (ComesBefore t) list (straight_is_order lawful straight))
          (λ x h. (straight_usable straight x h).there),
      lawful.few_actions,
    )

pub out_of_force_unused :
    {t : Study} {list : List ℕ} → StraightPlan t list → (x : ℕ) → in_force t.situation (action_at t.actions x) ≡ false → In x list → ⊥
out_of_force_unused p x out h = true≢false (sym (straight_usable p x h).in_force_lem ∙ out)

pub first_plan_determined :
    {t : Study} {ranks xs ys : List ℕ} → RankList (length t.actions) ranks → FirstPlan t ranks xs → FirstPlan t ranks ys → xs ≡ ys
first_plan_determined {t} {ranks} {xs} {ys} r p q =
    first_antisym (Usable t) (rank_in ranks) (rank_list_tells_apart (Usable t) (length t.actions) (λ x h. h.there) r) xs ys
    (straight_usable p.straight) (straight_usable q.straight) (p.first ys q.straight) (q.first xs p.straight)

greedy_takes :
    (t : Study) (ranks list : List ℕ) → Greedy (OnAWalk t) (ComesBefore t) (rank_in ranks) None list
    → Takes (OnAWalk t) (ComesBefore t) None list
greedy_takes t ranks list g =
    greedy_so_far_takes (OnAWalk t) (ComesBefore t) (rank_in ranks) None list (greedy_so_far (OnAWalk t) (ComesBefore t) (rank_in ranks) None list g)

pub greedy_is_first_plan :
    {t : Study} {ranks list : List ℕ} → Lawful t → Walks t → Met t → RankList (length t.actions) ranks
    → Greedy (OnAWalk t) (ComesBefore t) (rank_in ranks) None list → ((x : ℕ) → OnAWalk t x → In x list) → FirstPlan t ranks list
greedy_is_first_plan {t} {ranks} {list} lawful walks met r g all = record {
  straight = order_is_straight lawful walks met list (all_taken_is_order (OnAWalk t) (ComesBefore t) list (greedy_takes t ranks list g) all);
  first = λ other p.
      greedy_first (OnAWalk t) (ComesBefore t) (rank_in ranks)
      (rank_list_tells_apart (OnAWalk t) (length t.actions) (λ x o. (on_walk_usable o).there) r) None list other g (straight_is_order lawful p);
}

-- the list of all walk actions
module _ (t : Study) (ranks list : List ℕ) (greedy : Greedy (OnAWalk t) (ComesBefore t) (rank_in ranks) None list)
    (all : List ℕ) (in_all : (x : ℕ) → OnAWalk t x → In x all) (only : (x : ℕ) → In x all → OnAWalk t x) where
  pub greedy_stuck : (x : ℕ) → OnAWalk t x → (In x list → ⊥) → ((y : ℕ) × OnRing (OnAWalk t) (ComesBefore t) y) × FreeOfRings t (length list)
  greedy_stuck x o n = (
    stuck_has_ring (OnAWalk t) (ComesBefore t) all in_all only (comes_before_decided t) list (greedy_takes t ranks list greedy) none x o n,
    stuck_counts (OnAWalk t) (ComesBefore t) all in_all only (comes_before_decided t) list (greedy_takes t ranks list greedy) none,
  )
    where
      none : NoneReady (OnAWalk t) (ComesBefore t) (λ y. In y list)
      none = none_ready_same (OnAWalk t) (ComesBefore t) (by_all list) (greedy_none_ready (OnAWalk t) (ComesBefore t) (rank_in ranks) None list greedy)
