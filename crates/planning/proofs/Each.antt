-- With a rank list and room the first plan is what is returned, and each straight plan is the first for some rank list.
-- Assumes nothing.
use Prim.Native.Nat.{ℕ, ◌≤◌}
use native.Mathlib.Omega.{arith}
use mathlib.Core.Path.{◌≡◌, refl, ap}
use mathlib.Core.List.{List, ◌++◌}
use lib.ListN.{length, drop}
use Rattle.answer.specs.Answers.{done}
use Rattle.answer.specs.declared.Answer.{Answer}
use Rattle.ranks.specs.Ranks.{RankList}
use Rattle.ranking.proofs.Fine.{rank_list_is_fine}
use Rattle.study.specs.Study.{Study}
use Rattle.lawful.specs.Lawful.{Lawful}
use Rattle.plans.specs.Plans.{StraightPlan}
use Rattle.orders.proofs.Members.{order_has_all}
use Rattle.orders.proofs.Reached.{Returned, each_order_returned}
use Rattle.walks.specs.Walks.{OnAWalk, ComesBefore}
use Rattle.walks.proofs.Leads.{on_walk_usable}
use Rattle.walks.proofs.Ordered.{straight_walks, straight_met, straight_is_order}
use Rattle.planning.specs.Planning.{FirstPlan, Plans}
use Rattle.planning.proofs.Found.{first_plan_determined, greedy_is_first_plan}
use Rattle.planning.proofs.Ways.{short, fits, Way, at_fault, barred, planned, way_of, barred_has_none}

-- with a rank list and room, the first plan is what is returned
pub first_plan_returned :
    {t : Study} {ranks list before after : List ℕ} {r : Answer}
    → Lawful t → RankList (length t.actions) ranks → FirstPlan t ranks list → length list ≤ length before
    → Plans t ranks before r after → (r ≡ done (length list) 0) × (after ≡ list ++ drop (length list) before)
first_plan_returned {t} {ranks} {list} {before} lawful rank_list first room p = from (way_of p)
  where
    from : {r : Answer} {after : List ℕ} → Way t ranks before r after → (r ≡ done (length list) 0) × (after ≡ list ++ drop (length list) before)
    from (at_fault f) = absurd (rw (rank_list_is_fine rank_list) at f)
    from (barred fine b) = absurd (barred_has_none lawful b first.straight)
    from (planned fine p (short l)) = absurd (omega (arith, ap length (first_plan_determined rank_list p first)))
    from (planned fine p (fits l)) = let e = first_plan_determined rank_list p first in rw e (refl, refl)

-- each straight plan is first under some rank list
pub each_straight_plan_first :
    {t : Study} {list : List ℕ} → Lawful t → StraightPlan t list → (ranks : List ℕ) × (RankList (length t.actions) ranks × FirstPlan t ranks list)
each_straight_plan_first {t} {list} lawful straight = (given.ranks, (given.rank_list, first))
  where
    given : Returned (OnAWalk t) (ComesBefore t) (length t.actions) list
    given = each_order_returned (OnAWalk t) (ComesBefore t) (length t.actions) (λ x o. (on_walk_usable o).there) list (straight_is_order lawful straight)

    first : FirstPlan t given.ranks list
    first =
        greedy_is_first_plan lawful (straight_walks lawful straight) (straight_met lawful straight) given.rank_list given.taken
        (order_has_all (OnAWalk t) (ComesBefore t) list (straight_is_order lawful straight))
