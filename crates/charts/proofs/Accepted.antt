-- A chart is answered 0 exactly if it is accepted: some list keeps it, and every list that keeps it is a straight plan.
-- Assumes nothing.
use Prim.Native.Nat.{ℕ, ◌≤◌, ◌<◌}
use native.Mathlib.Omega.{arith}
use native.Mathlib.Decide.{ℕ_discrete}
use mathlib.Core.Path.{◌≡◌, refl}
use mathlib.Core.Logic.{◌⊎◌, inl, inr, ◌≢◌, ◌↔◌}
use mathlib.Core.List.{List}
use lib.ListN.{length, get_or}
use Rattle.answer.specs.declared.Answer.{Answer}
use Rattle.study.specs.Study.{Study}
use Rattle.lawful.specs.Lawful.{Lawful}
use Rattle.plans.specs.Plans.{StraightPlan}
use Rattle.orders.specs.Orders.{Distinct, StandsBefore, Order, Chain, one, OnRing}
use Rattle.orders.proofs.Lists.{entry_in}
use Rattle.orders.proofs.Counts.{distinct_once}
use Rattle.orders.proofs.Members.{order_distinct, order_members, order_has_all}
use Rattle.orders.proofs.Standing.{stands_before_in, order_stands}
use Rattle.orders.proofs.Chains.{stands_before_from, none_before_itself, not_both_before}
use Rattle.orders.proofs.Extended.{chained_order, order_without_ring, order_other_way}
use Rattle.walks.specs.Walks.{OnAWalk, ComesBefore}
use Rattle.walks.proofs.Ordered.{straight_walks, straight_met, straight_is_order}
use Rattle.walks.proofs.Straight.{order_is_straight}
use Rattle.planning.specs.Refusals.{NoPlanCanBe}
use Rattle.planning.proofs.Bars.{without_bars_plans, off_bars_plans, ring_bars_plans}
use Rattle.planning.proofs.Found.{straight_usable}
use Rattle.charts.specs.Charts.{Chart, Paired, Accepted}
use Rattle.charts.specs.Faults.{FirstUnusable, Amiss, repeats, missing, on_no_walk, Astray, this_unlisted, that_unlisted, itself, pair_at, InCircle}
use Rattle.charts.specs.Faults.{NoneAmiss, NoneAstray, Chained, Direct, NoneLacking}
use Rattle.charts.specs.Answers.{most_actions, most_pairs, Plannable, Uncircled, Charts, no_walk, off_walk_lem, ring, too_many_actions, too_many_pairs, unusable, amiss, astray, circle, lacking, fine}
use Rattle.charts.proofs.Pairs.{pair_at_paired, paired_decided}
use Rattle.charts.proofs.Keeping.{kept_in, in_kept, chained_stands, listed_on_walk, on_walk_listed, keeps_is_order, order_keeps, chained_on_walks, on_walks_chained}

-- ---- what an accepted chart has: its order is a straight plan, of the listed actions

module _ {t : Study} (lawful : Lawful t) {c : Chart} (accepted : Accepted t c) where
  abbrev plan : StraightPlan t accepted.order
  plan = accepted.straight accepted.order accepted.keeps

  abbrev order : Order (OnAWalk t) (ComesBefore t) accepted.order
  order = straight_is_order lawful plan

  abbrev once : Distinct accepted.order
  once = order_distinct (OnAWalk t) (ComesBefore t) accepted.order order

  unusable_not_accepted : {k : ℕ} → FirstUnusable t c.actions k → ⊥
  unusable_not_accepted {k} f =
      let i : ℕ = get_or c.actions k 0 in
      f.unusable (straight_usable plan i (kept_in accepted.keeps i (entry_in c.actions k f.there)))

  amiss_not_accepted : {i : ℕ} → Amiss t c.actions i → ⊥
  amiss_not_accepted {i} (repeats h) = omega (arith, accepted.keeps.rearranged i, distinct_once accepted.order once i)
  amiss_not_accepted {i} (missing o n) =
      n (in_kept accepted.keeps i (order_has_all (OnAWalk t) (ComesBefore t) accepted.order order i o))
  amiss_not_accepted {i} (on_no_walk h n) =
      n (order_members (OnAWalk t) (ComesBefore t) accepted.order order i (kept_in accepted.keeps i h))

  astray_not_accepted : (k : ℕ) → k < length c.pairs → Astray c.actions (pair_at c.pairs k) → ⊥
  astray_not_accepted k h = go
    where
      this : ℕ
      this = (pair_at c.pairs k).this

      that : ℕ
      that = (pair_at c.pairs k).that

      stands : StandsBefore this that accepted.order
      stands = accepted.keeps.in_order this that (pair_at_paired c.pairs k h)

      go : Astray c.actions (pair_at c.pairs k) → ⊥
      go (this_unlisted n) = n (in_kept accepted.keeps this (stands_before_from this that accepted.order stands))
      go (that_unlisted n) = n (in_kept accepted.keeps that (stands_before_in this that accepted.order stands))
      go (itself e) = none_before_itself that accepted.order once (rw e at stands)

  circle_not_accepted : {x : ℕ} → InCircle c.pairs x → ⊥
  circle_not_accepted {x} r = none_before_itself x accepted.order once (chained_stands accepted.keeps once r)

-- ---- charts whose lists and pairs are in order, and form no circle

module _ {t : Study} (lawful : Lawful t) {c : Chart} (given : Uncircled t c) where
  abbrev some_plan : Plannable t
  some_plan = given.paired.listed.usably.within.plannable

  abbrev fits : NoneAmiss t c.actions
  fits = given.paired.listed.none_amiss

  abbrev pairs_fit : NoneAstray c.actions c.pairs
  pairs_fit = given.paired.none_astray

  no_ring : (x : ℕ) → OnRing (OnAWalk t) (Paired c.pairs) x → ⊥
  no_ring x r = given.no_circle x (on_walks_chained c r)

  -- some list keeps it, and where no direct order is lacking every such list is a straight plan
  pub none_lacking_accepted : NoneLacking t c.pairs → Accepted t c
  none_lacking_accepted none = record {
    order = some.0;
    keeps = order_keeps lawful c fits pairs_fit some.0 some.1;
    straight = λ list k.
        order_is_straight lawful (straight_walks lawful some_plan.1) (straight_met lawful some_plan.1) list
        (chained_order chained list (keeps_is_order lawful c fits list k));
  }
    where
      some : (list : List ℕ) × Order (OnAWalk t) (Paired c.pairs) list
      some =
          order_without_ring (OnAWalk t) (Paired c.pairs) c.actions (on_walk_listed lawful fits) (listed_on_walk lawful fits)
          (paired_decided c.pairs) no_ring

      chained : (i j : ℕ) → OnAWalk t i → OnAWalk t j → ComesBefore t i j → Chain (OnAWalk t) (Paired c.pairs) i j
      chained i j m n b = chained_on_walks lawful c fits pairs_fit (none i j (record { one = m; other = n; comes_before_lem = b }))

  -- where one is lacking, some list that keeps the chart has the two the other way round
  lacking_not_accepted : {i j : ℕ} → Direct t i j → (Chained c.pairs i j → ⊥) → Accepted t c → ⊥
  lacking_not_accepted {i} {j} direct unchained accepted =
      let (list, (o, turned)) =
      order_other_way (OnAWalk t) (Paired c.pairs) c.actions (on_walk_listed lawful fits) (listed_on_walk lawful fits)
      (paired_decided c.pairs) no_ring i j direct.one direct.other apart (λ r. unchained (on_walks_chained c r))
      in
      let straight = accepted.straight list (order_keeps lawful c fits pairs_fit list o) in
      let s = order_stands (OnAWalk t) (ComesBefore t) list (straight_is_order lawful straight) in
      not_both_before i j list s.none_twice (s.keeps_before i j direct.one direct.other direct.comes_before_lem) turned
    where
      apart : i ≢ j
      apart e = ring_bars_plans lawful some_plan.1 (one direct.one direct.one (rw (← e) at direct.comes_before_lem))

-- ---- by the answer's number

module _ {t : Study} (lawful : Lawful t) {c : Chart} where
  -- only 0 and 19 leave room for a chart to be accepted
  refused_not_accepted : {r : Answer} → Charts t c r → r.number ≢ 0 → r.number ≢ 19 → Accepted t c → ⊥
  refused_not_accepted (no_walk l) _ _ a = without_bars_plans lawful (plan lawful a) l
  refused_not_accepted (off_walk_lem _ l) _ _ a = off_bars_plans lawful (plan lawful a) l
  refused_not_accepted (ring _ _ r _) _ _ a = ring_bars_plans lawful (plan lawful a) r
  refused_not_accepted (too_many_actions _ _) _ n a = n refl
  refused_not_accepted (too_many_pairs _ _ _) _ n a = n refl
  refused_not_accepted (unusable _ f) _ _ a = unusable_not_accepted lawful a f
  refused_not_accepted (amiss _ l) _ _ a = amiss_not_accepted lawful a l.amiss
  refused_not_accepted (astray {k = k} _ f) _ _ a = astray_not_accepted lawful a k f.there f.astray
  refused_not_accepted (circle _ r) _ _ a = circle_not_accepted lawful a r
  refused_not_accepted (lacking u l) _ _ a = lacking_not_accepted lawful u l.direct l.unchained a
  refused_not_accepted (fine _ _) n _ a = n refl

  -- 0: accepted
  pub answer_0_accepted : {r : Answer} → Charts t c r → r.number ≡ 0 → Accepted t c
  answer_0_accepted (no_walk l) e = absurd (omega arith)
  answer_0_accepted (off_walk_lem _ l) e = absurd (omega arith)
  answer_0_accepted (ring _ _ _ _) e = absurd (omega arith)
  answer_0_accepted (too_many_actions _ _) e = absurd (omega arith)
  answer_0_accepted (too_many_pairs _ _ _) e = absurd (omega arith)
  answer_0_accepted (unusable _ _) e = absurd (omega arith)
  answer_0_accepted (amiss _ _) e = absurd (omega arith)
  answer_0_accepted (astray _ _) e = absurd (omega arith)
  answer_0_accepted (circle _ _) e = absurd (omega arith)
  answer_0_accepted (lacking _ _) e = absurd (omega arith)
  answer_0_accepted (fine u n) e = none_lacking_accepted lawful u n

  -- 14, 25, 26, 27, 28: not accepted
  pub at_fault_not_accepted : {r : Answer} → Charts t c r → (r.number ≡ 14) ⊎ ((25 ≤ r.number) × (r.number ≤ 28)) → Accepted t c → ⊥
  at_fault_not_accepted p (inl e) = refused_not_accepted p (omega arith) (omega arith)
  at_fault_not_accepted p (inr h) = refused_not_accepted p (omega (arith, h.0)) (omega (arith, h.0))

  -- 10, 11, 12: no chart at all is accepted
  pub answer_10_11_12_none_accepted : {r : Answer} → Charts t c r → NoPlanCanBe r → (other : Chart) → Accepted t other → ⊥
  answer_10_11_12_none_accepted (no_walk l) h other a = without_bars_plans lawful (plan lawful a) l
  answer_10_11_12_none_accepted (off_walk_lem _ l) h other a = off_bars_plans lawful (plan lawful a) l
  answer_10_11_12_none_accepted (ring _ _ r _) h other a = ring_bars_plans lawful (plan lawful a) r
  answer_10_11_12_none_accepted (too_many_actions _ _) h other a = absurd (omega arith)
  answer_10_11_12_none_accepted (too_many_pairs _ _ _) h other a = absurd (omega arith)
  answer_10_11_12_none_accepted (unusable _ _) h other a = absurd (omega arith)
  answer_10_11_12_none_accepted (amiss _ _) h other a = absurd (omega arith)
  answer_10_11_12_none_accepted (astray _ _) h other a = absurd (omega arith)
  answer_10_11_12_none_accepted (circle _ _) h other a = absurd (omega arith)
  answer_10_11_12_none_accepted (lacking _ _) h other a = absurd (omega arith)
  answer_10_11_12_none_accepted (fine _ _) h other a = absurd (omega arith)

  -- within the limits, 0 exactly if it is accepted
  module _ (few_actions : length c.actions ≤ most_actions) (few_pairs : length c.pairs ≤ most_pairs) where
    not_19 : {r : Answer} → Charts t c r → r.number ≢ 19
    not_19 (no_walk l) e = omega arith
    not_19 (off_walk_lem _ l) e = omega arith
    not_19 (ring _ _ _ _) e = omega arith
    not_19 (too_many_actions _ h) e = omega (arith, few_actions)
    not_19 (too_many_pairs _ _ h) e = omega (arith, few_pairs)
    not_19 (unusable _ _) e = omega arith
    not_19 (amiss _ _) e = omega arith
    not_19 (astray _ _) e = omega arith
    not_19 (circle _ _) e = omega arith
    not_19 (lacking _ _) e = omega arith
    not_19 (fine _ _) e = omega arith

    pub answer_0_exactly_if_accepted : {r : Answer} → Charts t c r → (r.number ≡ 0) ↔ Accepted t c
    answer_0_exactly_if_accepted {r} p = (answer_0_accepted p, λ a. go (ℕ_discrete r.number 0) a)
      where
        go : Dec (r.number ≡ 0) → Accepted t c → r.number ≡ 0
        go (yes e) a = e
        go (no n) a = absurd (refused_not_accepted p n (not_19 p) a)
