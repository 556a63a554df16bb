-- All straight plans of a study, listed, for any file.
-- Assumes nothing.
use Prim.Native.Nat.{ℕ, ◌≤◌}
use mathlib.Core.Logic.{◌↔◌}
use mathlib.Core.Option.{Option, none, some}
use mathlib.Core.List.{List, []}
use lib.ListN.{length}
use Rattle.answer.specs.declared.Answer.{Answer}
use Rattle.study.specs.Study.{Study}
use Rattle.study.specs.Reading.{Said, says, refused}
use Rattle.lawful.specs.Lawful.{Lawful}
use Rattle.lawful.proofs.Loads.{LawfulIfHeard}
use Rattle.plans.specs.Plans.{StraightPlan}
use Rattle.orders.specs.Orders.{Order}
use Rattle.orders.proofs.Lists.{distinct_within}
use Rattle.orders.proofs.Members.{order_distinct, order_members}
use Rattle.walks.specs.Walks.{OnAWalk, ComesBefore}
use Rattle.walks.proofs.Ordered.{straight_is_order}
use Rattle.walks.proofs.Straight.{order_is_straight}
use Rattle.planning.proofs.Bars.{without_bars_plans, off_bars_plans}
use Rattle.worked.specs.Table.{StraightIn, OneOf}
use Rattle.reference.proofs.Meeting.{comes_before, says_comes_before, walk_actions, walk_action_in, in_walk_actions}
use Rattle.reference.proofs.Barring.{barred, Bar, lacks_walk, off_its_walk, no_bar, bar_tells}
use Rattle.worked.proofs.Listing.{orders, order_listed, listed_is_order}

abbrev pub none_if_barred : Option Answer → List (List ℕ) → List (List ℕ)
none_if_barred none lists = lists
none_if_barred (some r) lists = []

unfoldable pub straight_plans : Study → List (List ℕ)
straight_plans t = none_if_barred (barred t) (orders (comes_before t) (walk_actions t) (length (walk_actions t)) [])

abbrev pub straight_plans_in : Said Study → List (List ℕ)
straight_plans_in (says t) = straight_plans t
straight_plans_in (refused number place) = []

module _ {t : Study} (lawful : Lawful t) (list : List ℕ) where
  order_short : Order (OnAWalk t) (ComesBefore t) list → length list ≤ length (walk_actions t)
  order_short o =
      distinct_within list (walk_actions t) (order_distinct (OnAWalk t) (ComesBefore t) list o)
      (λ x h. walk_action_in lawful x (order_members (OnAWalk t) (ComesBefore t) list o x h))

  pub straight_plans_listed : StraightPlan t list ↔ OneOf list (straight_plans t)
  unfolding straight_plans
  straight_plans_listed = go (bar_tells lawful)
    where
      go : {o : Option Answer} → Bar t o
          → StraightPlan t list ↔ OneOf list (none_if_barred o (orders (comes_before t) (walk_actions t) (length (walk_actions t)) []))
      go (lacks_walk l) = (λ p. without_bars_plans lawful p l, λ h. absurd h)
      go (off_its_walk walks l) = (λ p. off_bars_plans lawful p l, λ h. absurd h)
      go (no_bar walks met) = (
        λ p.
            let o = straight_is_order lawful p in
            order_listed (OnAWalk t) (ComesBefore t) (walk_actions t) (walk_action_in lawful) (in_walk_actions lawful) (says_comes_before t)
            (length (walk_actions t)) [] list o (order_short o),
        λ h.
            order_is_straight lawful walks met list
            (listed_is_order (OnAWalk t) (ComesBefore t) (walk_actions t) (walk_action_in lawful) (in_walk_actions lawful) (says_comes_before t)
            (length (walk_actions t)) [] list h),
      )

pub straight_plans_in_file : (said : Said Study) → LawfulIfHeard said → (list : List ℕ) → StraightIn said list ↔ OneOf list (straight_plans_in said)
straight_plans_in_file (says t) lawful list = straight_plans_listed lawful list
straight_plans_in_file (refused number place) lawful list = (λ h. h, λ h. h)
