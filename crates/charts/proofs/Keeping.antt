-- The lists that keep a chart whose list and pairs are in order are the orders of the walk actions under the pairs.
-- Assumes nothing.
use Prim.Native.Nat.{ℕ, ◌<◌}
use native.Mathlib.Omega.{arith}
use mathlib.Core.List.{List}
use Rattle.ranks.specs.Ranks.{count}
use Rattle.study.specs.Study.{Study}
use Rattle.lawful.specs.Lawful.{Lawful}
use Rattle.orders.specs.Orders.{In, Distinct, StandsBefore, Order, Chain}
use Rattle.orders.proofs.Lists.{in_decided}
use Rattle.orders.proofs.Counts.{counted_in, in_counted, once_distinct, distinct_same_count}
use Rattle.orders.proofs.Chains.{chain-within, chain-stands}
use Rattle.orders.proofs.Standing.{Standing, order_stands, standing_is_order}
use Rattle.walks.specs.Walks.{OnAWalk}
use Rattle.reference.proofs.Tests.{settled}
use Rattle.reference.proofs.Meeting.{says_on_walk}
use Rattle.charts.specs.Charts.{Chart, Paired, Keeps}
use Rattle.charts.specs.Faults.{repeats, missing, on_no_walk, NoneAmiss, NoneAstray, Chained}
use Rattle.charts.proofs.Pairs.{this_listed, that_listed}

-- ---- what a list holds that keeps a chart

pub kept_in : {c : Chart} {list : List ℕ} → Keeps c list → (x : ℕ) → In x c.actions → In x list
kept_in {c} {list} k x h = counted_in x list (omega (arith, k.rearranged x, in_counted x c.actions h))

pub in_kept : {c : Chart} {list : List ℕ} → Keeps c list → (x : ℕ) → In x list → In x c.actions
in_kept {c} {list} k x h = counted_in x c.actions (omega (arith, k.rearranged x, in_counted x list h))

-- .. and how it stands
pub chained_stands :
    {c : Chart} {list : List ℕ} → Keeps c list → Distinct list → {x y : ℕ} → Chained c.pairs x y → StandsBefore x y list
chained_stands {c} {list} k d = chain-stands list d (λ x y _ _ p. k.in_order x y p)

-- ---- where each walk action is listed once, and no other

module _ {t : Study} (lawful : Lawful t) {list : List ℕ} (none : NoneAmiss t list) where
  pub listed_on_walk : (i : ℕ) → In i list → OnAWalk t i
  listed_on_walk i h = settled (says_on_walk lawful i) (λ n. none i (on_no_walk h n))

  pub on_walk_listed : (i : ℕ) → OnAWalk t i → In i list
  on_walk_listed i o = go (in_decided i list)
    where
      go : Dec (In i list) → In i list
      go (yes h) = h
      go (no n) = absurd (none i (missing o n))

  pub listed_once : Distinct list
  listed_once = once_distinct list (λ i. let once : 1 < count i list → ⊥ = λ h. none i (repeats h) in omega (arith, once))

-- ---- .. and each pair names two listed actions

module _ {t : Study} (lawful : Lawful t) (c : Chart) (none : NoneAmiss t c.actions) where
  abbrev listed : (i : ℕ) → In i c.actions → OnAWalk t i
  listed = listed_on_walk lawful none

  pub keeps_is_order : (list : List ℕ) → Keeps c list → Order (OnAWalk t) (Paired c.pairs) list
  keeps_is_order list k = standing_is_order (OnAWalk t) (Paired c.pairs) list (record {
    none_twice = once_distinct list (λ x. let once : 1 < count x c.actions → ⊥ = λ h. none x (repeats h) in omega (arith, once, k.rearranged x));
    all_members = λ x o. kept_in k x (on_walk_listed lawful none x o);
    only_members = λ x h. listed_on_walk lawful none x (in_kept k x h);
    keeps_before = λ x y _ _. k.in_order x y;
  })

  module _ (fit : NoneAstray c.actions c.pairs) where
    pub order_keeps : (list : List ℕ) → Order (OnAWalk t) (Paired c.pairs) list → Keeps c list
    order_keeps list o = record {
      rearranged =
          distinct_same_count list c.actions s.none_twice (listed_once lawful none)
          (λ x h. on_walk_listed lawful none x (s.only_members x h)) (λ x h. s.all_members x (listed_on_walk lawful none x h));
      in_order = λ x y p.
          s.keeps_before x y (listed x (this_listed c.actions c.pairs fit x y p)) (listed y (that_listed c.actions c.pairs fit x y p)) p;
    }
      where
        s : Standing (OnAWalk t) (Paired c.pairs) list
        s = order_stands (OnAWalk t) (Paired c.pairs) list o

    -- chains of pairs are chains of walk actions
    pub chained_on_walks : {x y : ℕ} → Chained c.pairs x y → Chain (OnAWalk t) (Paired c.pairs) x y
    chained_on_walks = chain-within λ x y _ _ p. (
      listed x (this_listed c.actions c.pairs fit x y p),
      (listed y (that_listed c.actions c.pairs fit x y p), p),
    )

pub on_walks_chained : {t : Study} (c : Chart) {x y : ℕ} → Chain (OnAWalk t) (Paired c.pairs) x y → Chained c.pairs x y
on_walks_chained c = chain-within λ x y _ _ p. (tt, (tt, p))
