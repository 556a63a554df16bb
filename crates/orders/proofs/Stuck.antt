-- Where none is ready, the members left are those on rings or behind them: there is a ring, or there is an order.
-- Assumes nothing.
use mathlib.Core.Path.{◌≡◌, refl}
use mathlib.Core.Logic.{◌⊎◌, inl, inr}
use mathlib.Core.List.{List, [], ◌∷◌}
use Prim.Native.Nat.{ℕ, zero, suc, ◌+◌, ◌<◌}
use native.Mathlib.Omega.{arith}
use lib.ListN.{length}
use Rattle.orders.specs.Orders.{In, Distinct, None, Takes, Order, Chain, one, OnRing, Behind, Counted}
use Rattle.orders.proofs.Lists.{in_decided, distinct_within, all_in_or_missing}
use Rattle.orders.proofs.Members.{takes_distinct, takes_members, all_taken_is_order}
use Rattle.orders.proofs.Grown.{NoneReady}
use Rattle.orders.proofs.Rings.{chain_before, behind_never_taken}

module _ (member : ℕ → Type 0) (before : ℕ → ℕ → Type 0) where
  -- one that comes before y and is left
  record LeftBefore (taken : ℕ → Type 0) (y : ℕ) : Type 0 where
    who : ℕ
    is_member : member who
    comes_before_lem : before who y
    left : taken who → ⊥

  -- a walk back over members that are left: now at y, with all that it came by
  record Walk (taken : ℕ → Type 0) (y : ℕ) (seen : List ℕ) : Type 0 where
    left : taken y → ⊥
    none_twice : Distinct seen
    members : (z : ℕ) → In z seen → member z
    now_seen : In y seen
    leads : (z : ℕ) → In z seen → (z ≡ y) ⊎ Chain member before y z

  module _
      (all : List ℕ) (in_all : (x : ℕ) → member x → In x all) (only : (x : ℕ) → In x all → member x)
      (decided : (x y : ℕ) → Dec (before x y)) where
    module _ (taken : ℕ → Type 0) (taken-decided : (x : ℕ) → Dec (taken x)) where
      look : (y : ℕ) (zs : List ℕ) → ((z : ℕ) → In z zs → member z) → LeftBefore taken y ⊎ ((z : ℕ) → In z zs → before z y → taken z)
      look y [] m = inr (λ z h _. absurd h)
      look y (x ∷ zs) m = go (decided x y) (taken-decided x) (look y zs (λ z h. m z (inr h)))
        where
          go : Dec (before x y) → Dec (taken x) → LeftBefore taken y ⊎ ((z : ℕ) → In z zs → before z y → taken z)
              → LeftBefore taken y ⊎ ((z : ℕ) → In z (x ∷ zs) → before z y → taken z)
          go b t (inl found) = inl found
          go (yes b) (no n) (inr rest) = inl (record { who = x; is_member = m x (inl refl); comes_before_lem = b; left = n })
          go (yes b) (yes t) (inr rest) = inr λ z h c. elim h [ inl e ↦ rw e t | inr g ↦ rest z g c ]
          go (no n) t (inr rest) = inr λ z h c. elim h [ inl e ↦ absurd (n (rw e at c)) | inr g ↦ rest z g c ]

      module _ (none : NoneReady member before taken) where
        left_has_one_before : (y : ℕ) → member y → (taken y → ⊥) → LeftBefore taken y
        left_has_one_before y m n = go (look y all only)
          where
            go : LeftBefore taken y ⊎ ((z : ℕ) → In z all → before z y → taken z) → LeftBefore taken y
            go (inl found) = found
            go (inr rest) =
                absurd (none y (record { is_member = m; not_taken = n; all_before = λ z mz b. rest z (in_all z mz) b }))

        walk : (fuel x y : ℕ) (seen : List ℕ) → Walk taken y seen → In x seen → length all < fuel + length seen → Behind member before x
        walk zero x y seen w h f =
            absurd (omega (arith, distinct_within seen all w.none_twice (λ z h. in_all z (w.members z h))))
        walk (suc fuel) x y seen w h f =
            next (left_has_one_before y (w.members y w.now_seen) w.left) (λ p v. walk fuel x p (p ∷ seen) v (inr h) (omega arith))
          where
            next : LeftBefore taken y → ((p : ℕ) → Walk taken p (p ∷ seen) → Behind member before x) → Behind member before x
            next q on = again (in_decided p seen)
              where
                p : ℕ
                p = q.who

                to : (z : ℕ) → In z seen → Chain member before p z
                to z g =
                    elim (w.leads z g) [
                      | inl e ↦ rw e (one q.is_member (w.members y w.now_seen) q.comes_before_lem)
                      | inr c ↦ chain_before member before q.is_member q.comes_before_lem c
                    ]

                again : Dec (In p seen) → Behind member before x
                again (yes g) = record { ring = p; on_ring = to p g; follows = inr (to x h) }
                again (no n) = on p (record {
                  left = q.left;
                  none_twice = (n, w.none_twice);
                  members = λ z g. elim g [ inl e ↦ rw e q.is_member | inr i ↦ w.members z i ];
                  now_seen = inl refl;
                  leads = λ z g. elim g [ inl e ↦ inl e | inr i ↦ inr (to z i) ];
                })

        pub stuck_are_behind : (x : ℕ) → member x → (taken x → ⊥) → Behind member before x
        stuck_are_behind x m n =
            walk (length all) x x (x ∷ []) (record {
              left = n;
              none_twice = (λ h. h, tt);
              members = λ z g. elim g [ inl e ↦ rw e m | inr i ↦ absurd i ];
              now_seen = inl refl;
              leads = λ z g. elim g [ inl e ↦ inl e | inr i ↦ absurd i ];
            }) (inl refl) (omega arith)

    module _ (xs : List ℕ) (takes : Takes member before None xs) (none : NoneReady member before (λ y. In y xs)) where
      pub left_is_behind : (x : ℕ) → member x → (In x xs → ⊥) → Behind member before x
      left_is_behind = stuck_are_behind (λ y. In y xs) (λ y. in_decided y xs) none

      pub stuck_counts : Counted (λ x. member x × (Behind member before x → ⊥)) (length xs)
      stuck_counts = record {
        list = xs;
        once = takes_distinct member before None xs takes;
        all = λ x m. there x m.0 m.1 (in_decided x xs);
        only = λ x h. (takes_members member before None xs takes x h, behind_never_taken member before xs takes x h);
        long = refl;
      }
        where
          there : (x : ℕ) → member x → (Behind member before x → ⊥) → Dec (In x xs) → In x xs
          there x m n (yes h) = h
          there x m n (no h) = absurd (n (left_is_behind x m h))

      pub stuck_has_ring : (x : ℕ) → member x → (In x xs → ⊥) → (y : ℕ) × OnRing member before y
      stuck_has_ring x m n = let b = left_is_behind x m n in (b.ring, b.on_ring)

      pub done_or_stuck : Order member before xs ⊎ ((y : ℕ) × OnRing member before y)
      done_or_stuck = go (all_in_or_missing all xs)
        where
          go : ((y : ℕ) → In y all → In y xs) ⊎ ((y : ℕ) × (In y all × (In y xs → ⊥)))
              → Order member before xs ⊎ ((y : ℕ) × OnRing member before y)
          go (inl f) = inl (all_taken_is_order member before xs takes (λ x m. f x (in_all x m)))
          go (inr m) = inr (stuck_has_ring m.0 (only m.0 m.1.0) m.1.1)
