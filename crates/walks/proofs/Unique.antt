-- A variable has one walk at most, and no action stands on it twice; what an action of a walk leaves and sets.
-- Assumes nothing.
use Prim.Native.Nat.{ℕ, suc, ◌<◌}
use mathlib.Core.Path.{◌≡◌}
use mathlib.Core.List.{List}
use lib.ListN.{length, get_or}
use Rattle.study.specs.Study.{Study}
use Rattle.lawful.specs.Lawful.{Lawful}
use Rattle.plans.specs.Plans.{Usable}
use Rattle.orders.specs.Orders.{Distinct}
use Rattle.walks.specs.Walks.{Walk, var_of, pre_of, post_of, start_of, goal_of}
use Rattle.walks.proofs.Leads.{leads_each, leads_first, leads_next, leads_end, leads_nowhere}
use Rattle.walks.proofs.Ways.{way_unique, way_distinct}

module _ {t : Study} (lawful : Lawful t) {v : ℕ} where
  pub walk_unique : {xs ys : List ℕ} → Walk t v xs → Walk t v ys → xs ≡ ys
  walk_unique = way_unique lawful

  pub walk_distinct : {xs : List ℕ} → Walk t v xs → Distinct xs
  walk_distinct = way_distinct lawful

-- place by place: what an action of a walk leaves and sets
module _ {t : Study} {v : ℕ} {xs : List ℕ} (walk : Walk t v xs) where
  pub walk_usable : (k : ℕ) → k < length xs → Usable t (get_or xs k 0)
  walk_usable k h = (leads_each t v (start_of t v) xs (goal_of t v) walk.leads k h).0

  pub walk_there : (k : ℕ) → k < length xs → get_or xs k 0 < length t.actions
  walk_there k h = (walk_usable k h).there

  pub walk_var : (k : ℕ) → k < length xs → var_of t (get_or xs k 0) ≡ v
  walk_var k h = (leads_each t v (start_of t v) xs (goal_of t v) walk.leads k h).1

  pub walk_first : 0 < length xs → pre_of t (get_or xs 0 0) ≡ start_of t v
  walk_first h = leads_first t v (start_of t v) xs (goal_of t v) walk.leads h

  pub walk_next : (k : ℕ) → suc k < length xs → pre_of t (get_or xs (suc k) 0) ≡ post_of t (get_or xs k 0)
  walk_next k h = leads_next t v (start_of t v) xs (goal_of t v) walk.leads k h

  pub walk_last : (k : ℕ) → suc k ≡ length xs → post_of t (get_or xs k 0) ≡ goal_of t v
  walk_last k h = leads_end t v (start_of t v) xs (goal_of t v) walk.leads k h

  pub walk_empty : length xs ≡ 0 → start_of t v ≡ goal_of t v
  walk_empty h = leads_nowhere t v (start_of t v) xs (goal_of t v) walk.leads h
