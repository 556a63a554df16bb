-- The walk actions that were not taken are those on or after a ring.
-- Assumes nothing.
use mathlib.Core.List.{List}
use Prim.Native.Nat.{ℕ}
use lib.ListN.{take, drop}
use Rattle.study.specs.Study.{Study}
use Rattle.orders.specs.Orders.{In, None, Takes}
use Rattle.orders.proofs.Grown.{by_all, NoneReady, none_ready_same, greedy_so_far, greedy_so_far_takes, greedy_none_ready}
use Rattle.orders.proofs.Rings.{behind_never_taken}
use Rattle.orders.proofs.Stuck.{left_is_behind}
use Rattle.walks.specs.Walks.{OnAWalk, ComesBefore}
use Rattle.planning.specs.Planning.{rank_in}
use Rattle.planning.proofs.Decided.{comes_before_decided}
use Rattle.taking.specs.Taking.{TakenGreedily}
use Rattle.handing.specs.Handing.{Taken}
use Rattle.explained.specs.Rings.{Stuck}
use Rattle.explained.proofs.Rings.{stuck_on}
use Rattle.stranding.specs.Left.{HasJust, Less}

module _ (t : Study) (ranks list : List ℕ) (greedy : TakenGreedily t ranks list) where
  takes : Takes (OnAWalk t) (ComesBefore t) None list
  takes =
      greedy_so_far_takes (OnAWalk t) (ComesBefore t) (rank_in ranks) None list
      (greedy_so_far (OnAWalk t) (ComesBefore t) (rank_in ranks) None list greedy)

  none_ready : NoneReady (OnAWalk t) (ComesBefore t) (λ y. In y list)
  none_ready =
      none_ready_same (OnAWalk t) (ComesBefore t) (by_all list)
      (greedy_none_ready (OnAWalk t) (ComesBefore t) (rank_in ranks) None list greedy)

-- those on walks without those that were taken
pub left_just :
    {t : Study} {ranks : List ℕ} {total k : ℕ} {room : List ℕ} → Taken t ranks total k room
    → (walkers left : List ℕ) → HasJust (OnAWalk t) walkers → Less (take k (drop 256 room)) walkers left → HasJust (Stuck t) left
left_just {t} {ranks} {k = k} {room = room} taken walkers left on less x low = (
  λ h. let (w, out) = (less x low).0 h in left_stuck ((on x low).0 w) out,
  λ stuck. (less x low).1 ((on x low).1 (stuck_on t stuck), λ h. behind_never_taken (OnAWalk t) (ComesBefore t) list in_order x h stuck),
)
  where
    list : List ℕ
    list = take k (drop 256 room)

    in_order : Takes (OnAWalk t) (ComesBefore t) None list
    in_order = takes t ranks list taken.greedy

    left_stuck : OnAWalk t x → (In x list → ⊥) → Stuck t x
    left_stuck =
        left_is_behind (OnAWalk t) (ComesBefore t) taken.list taken.members.all taken.members.only (comes_before_decided t) list in_order
        (none_ready t ranks list taken.greedy) x
