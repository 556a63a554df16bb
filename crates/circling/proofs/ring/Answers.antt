-- `circling::ring` meets its contract: the path from the lowest on or after a ring closes, and the orders of its circle are told.
-- Assumes nothing.
use mathlib.Core.Path.{◌≡◌, refl}
use Prim.Native.Nat.{ℕ, ◌<◌}
use native.Mathlib.Omega.{arith}
use lib.ListN.{get_or, replicate, get_or-replicate}
use Rattle.study.specs.Study.{Study}
use Rattle.tables.specs.Rows.{start_column}
use Rattle.explained.specs.Rings.{Stuck}
use Rattle.ringing.specs.Stranded.{Stranded, Rowed}
use Rattle.ringing.specs.Path.{Closed, circle_facts}
use Rattle.ringing.proofs.Befores.{stuck_small, least_left_is_lowest}
use Rattle.circling.proofs.Lowest.{some_below}
use Rattle.circling.proofs.Paths.{none_on_path}
use Rattle.ringing.proofs.Circles.{closed_are_actions, circle_told}
use Rattle.circling.proofs.ring.Goals as goal
use Rattle.circling.proofs.ring.Goals.{After-wait-c}

-- none is seen at first
zeros : (i : ℕ) → i < 256 → ◌≡◌ {A = ℕ} (get_or (replicate 256 0) i 0) 0
zeros i h = get_or-replicate 256 i 0 0 h

pub unwrap-first-requires : goal.unwrap-first-requires
unwrap-first-requires c =
    let (long, (t, i, stranded, rowed, stuck)) = c.requires in
    let (first, lowest) = least_left_is_lowest stranded stuck c.least.ensures in
    some_below c.least.result (stuck_small stranded.lawful first)

pub wait-c-requires : goal.wait-c-requires
wait-c-requires c =
    let (long, (t, i, stranded, rowed, stuck)) = c.requires in
    let (first, lowest) = least_left_is_lowest stranded stuck (rw c.unwrap-first.ensures at c.least.ensures) in (
      refl {a = 256},
      refl {a = 256},
      (t, stranded, rowed, none_on_path zeros, first, zeros _ (stuck_small stranded.lawful first), λ m e. absurd (omega arith)),
    )

-- the path that the call left, closed
module _
    (w : After-wait-c) (t : Study) (i : ℕ)
    (stranded : Stranded w.args.file.now (start_column w.args.vars.now) w.args.setters.now w.args.wanters.now w.args.left.now t)
    (rowed : Rowed w.args.file.now w.args.acts.now t) (stuck : Stuck t i) where
  lowest : Stuck t w.unwrap-first.result × ((k : ℕ) → k < w.unwrap-first.result → Stuck t k → ⊥)
  lowest = least_left_is_lowest stranded stuck (rw w.unwrap-first.ensures at w.least.ensures)

  closed :
      Closed t (replicate 256 0) w.wait-c.new.path 0 w.wait-c.result × (0 < w.wait-c.result.to)
      × (get_or w.wait-c.new.path 0 0 ≡ w.unwrap-first.result)
  closed =
      w.wait-c.ensures.closed t stranded rowed (none_on_path zeros) lowest.0 (zeros _ (stuck_small stranded.lawful lowest.0))
      (λ m e. absurd (omega arith))

pub orders-requires : goal.orders-requires
orders-requires c =
    let (long, (t, i, stranded, rowed, stuck)) = c.requires in
    let (circle, _, _) = closed (goal.at.orders-requires c).After-wait-c t i stranded rowed stuck in
    let wide = c.wait-c.ensures.seen_len.1 in
    (wide, long, circle.low, circle.high, (t, rowed, closed_are_actions wide circle))

pub returns : goal.returns
returns c =
    let w = (goal.at.returns c).After-wait-c in
    record {
      upper_bound = c.orders.ensures.upper_bound;
      circled =
          λ t i stranded rowed stuck.
          let (circle, _, first) = closed w t i stranded rowed stuck in
          let (is_stuck, none_below) = lowest w t i stranded rowed stuck in
          let wide = c.wait-c.ensures.seen_len.1 in (
            circle_facts t c.wait-c.new.path c.wait-c.result,
            (circle_told wide is_stuck none_below circle first, c.orders.ensures.facts_after t rowed (closed_are_actions wide circle)),
          );
    }
