-- Every order is the one that taking the least rank first gives, for some rank list.
-- Assumes nothing.
use mathlib.Core.Path.{◌≡◌}
use mathlib.Core.Logic.{inl, inr}
use mathlib.Core.List.{List, [], ◌∷◌}
use Prim.Native.Nat.{ℕ, suc, ◌+◌, ◌≤◌, ◌<◌, suc-le-suc}
use native.Mathlib.Nat.{le_refl}
use native.Mathlib.Omega.{arith}
use lib.ListN.{length, get_or}
use Rattle.ranks.specs.Ranks.{RankList}
use Rattle.ranks.proofs.Placed.{placed}
use Rattle.orders.specs.Orders.{In, Distinct, None, Plus, Ready, OrderFrom, Order, Greedy}
use Rattle.orders.proofs.Lists.{entry_in, in_has_place, distinct_entries_differ}
use Rattle.orders.proofs.Members.{TakenBy, order_takes_all, order_distinct, order_members}
use Rattle.orders.proofs.First.{Apart, rank_list_tells_apart, greedy_determined}

-- each has a rank no greater than all that come after it
abbrev pub Rising : (ℕ → ℕ) → List ℕ → Type 0
Rising rank [] = Unit {0}
Rising rank (x ∷ rest) = ((y : ℕ) → In y rest → rank x ≤ rank y) × Rising rank rest

pub rising_by_places :
    (rank : ℕ → ℕ) (from : ℕ) (zs : List ℕ) → ((k : ℕ) → k < length zs → rank (get_or zs k 0) ≡ from + k) → Rising rank zs
rising_by_places rank from [] f = tt
rising_by_places rank from (z ∷ zs) f =
    (later, rising_by_places rank (suc from) zs (λ k h. omega (arith, f (suc k) (suc-le-suc h))))
  where
    later : (y : ℕ) → In y zs → rank z ≤ rank y
    later y h =
        let p = in_has_place y zs h in
        rw (← p.1.1) (omega (arith, f 0 (omega arith), f (suc p.0) (suc-le-suc p.1.0)))

-- without repeats, some rank list makes the ranks rise along it
pub placed-rising :
    (n : ℕ) (zs : List ℕ) → Distinct zs → ((x : ℕ) → In x zs → x < n) → (l : List ℕ) × (RankList n l × Rising (λ i. get_or l i 0) zs)
placed-rising n zs d below =
    let p = placed n zs (distinct_entries_differ zs d) (λ i h. below (get_or zs i 0) (entry_in zs i h)) in
    (p.0, (p.1.0, rising_by_places (λ i. get_or p.0 i 0) 0 zs (λ k h. omega (arith, p.1.1 k h))))

module _ (member : ℕ → Type 0) (before : ℕ → ℕ → Type 0) where
  pub order_is_greedy_from :
      (rank : ℕ → ℕ) (taken : ℕ → Type 0) (zs : List ℕ)
      → OrderFrom member before taken zs → Rising rank zs → Greedy member before rank taken zs
  order_is_greedy_from rank taken [] o r = λ y ready. ready.not_taken (o y ready.is_member)
  order_is_greedy_from rank taken (x ∷ zs) o r = (
    o.0,
    λ y ready. least y ready (order_takes_all member before taken (x ∷ zs) o y ready.is_member),
    order_is_greedy_from rank (Plus x taken) zs o.1 r.1,
  )
    where
      least : (y : ℕ) → Ready member before taken y → TakenBy taken (x ∷ zs) y → rank x ≤ rank y
      least y ready (inl (inl e)) = rw e (le_refl (rank x))
      least y ready (inl (inr h)) = r.0 y h
      least y ready (inr t) = absurd (ready.not_taken t)

  pub order_is_greedy : (rank : ℕ → ℕ) (zs : List ℕ) → Order member before zs → Rising rank zs → Greedy member before rank None zs
  order_is_greedy rank zs = order_is_greedy_from rank None zs

  pub rising_order_returned :
      (rank : ℕ → ℕ) → Apart member rank
      → (zs xs : List ℕ) → Order member before zs → Rising rank zs → Greedy member before rank None xs → xs ≡ zs
  rising_order_returned rank apart zs xs o r g = greedy_determined member before rank apart None xs zs g (order_is_greedy rank zs o r)

  -- a rank list with which just this order is taken
  pub record Returned (n : ℕ) (zs : List ℕ) : Type 0 where
    pub ranks : List ℕ
    pub rank_list : RankList n ranks
    pub taken : Greedy member before (λ i. get_or ranks i 0) None zs
    pub alone : (xs : List ℕ) → Greedy member before (λ i. get_or ranks i 0) None xs → xs ≡ zs

  pub each_order_returned : (n : ℕ) → ((x : ℕ) → member x → x < n) → (zs : List ℕ) → Order member before zs → Returned n zs
  each_order_returned n small zs o =
      let p = placed-rising n zs (order_distinct member before zs o) (λ x h. small x (order_members member before zs o x h)) in
      let rank : ℕ → ℕ = λ i. get_or p.0 i 0 in
      record {
        ranks = p.0;
        rank_list = p.1.0;
        taken = order_is_greedy rank zs o p.1.1;
        alone = λ xs g. rising_order_returned rank (rank_list_tells_apart member n small p.1.0) zs xs o p.1.1 g;
      }
