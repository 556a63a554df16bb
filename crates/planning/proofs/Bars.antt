-- What bars every straight plan: a variable without a walk, a condition off its walk, a ring.
-- Assumes nothing.
use Prim.Native.Nat.{ℕ}
use mathlib.Core.List.{List}
use Rattle.study.specs.Study.{Study}
use Rattle.lawful.specs.Lawful.{Lawful}
use Rattle.plans.specs.Plans.{StraightPlan}
use Rattle.orders.specs.Orders.{OnRing}
use Rattle.orders.proofs.Rings.{ring_bars_orders}
use Rattle.walks.specs.Walks.{OnAWalk, ComesBefore, Walks, Met}
use Rattle.walks.proofs.Ordered.{straight_walks, straight_met, straight_is_order}
use Rattle.planning.specs.Planning.{LowestWithout, LowestOff}

pub without_bars_walks : {t : Study} {v b : ℕ} → LowestWithout t v b → Walks t → ⊥
without_bars_walks {t} {v} l walks = let (list, walk) = walks v l.there in l.without list walk

pub off_bars_met : {t : Study} {i u : ℕ} → LowestOff t i u → Met t → ⊥
off_bars_met {t} {i} {u} l met = l.off (met i l.on_walk_lem u l.value l.wants_it)

module _ {t : Study} (lawful : Lawful t) {list : List ℕ} (straight : StraightPlan t list) where
  pub without_bars_plans : {v b : ℕ} → LowestWithout t v b → ⊥
  without_bars_plans l = without_bars_walks l (straight_walks lawful straight)

  pub off_bars_plans : {i u : ℕ} → LowestOff t i u → ⊥
  off_bars_plans l = off_bars_met l (straight_met lawful straight)

  pub ring_bars_plans : {x : ℕ} → OnRing (OnAWalk t) (ComesBefore t) x → ⊥
  ring_bars_plans c = ring_bars_orders (OnAWalk t) (ComesBefore t) list c (straight_is_order lawful straight)
