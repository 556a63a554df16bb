-- The pairs of a chart: by their places, and whether a chain of them leads from one action to another.
-- Assumes nothing.
use Prim.Native.Nat.{ℕ, zero, suc, ◌<◌}
use native.Mathlib.Omega.{arith}
use native.Mathlib.Decide.{ℕ_discrete}
use mathlib.Core.Path.{◌≡◌, refl, sym}
use mathlib.Core.Logic.{inl, inr}
use mathlib.Core.List.{List, [], ◌∷◌}
use lib.ListN.{length}
use Rattle.orders.specs.Orders.{In, one, more}
use Rattle.orders.proofs.Lists.{in_decided}
use Rattle.orders.proofs.Chains.{chain_decided}
use Rattle.charts.specs.Charts.{Pair, Paired}
use Rattle.charts.specs.Faults.{this_unlisted, that_unlisted, pair_at, NoneAstray, Anyone, Chained}

-- ---- by places

pub pair_at_paired : (pairs : List Pair) (k : ℕ) → k < length pairs → Paired pairs (pair_at pairs k).this (pair_at pairs k).that
pair_at_paired [] k h = absurd (omega arith)
pair_at_paired (p ∷ rest) zero h = inl (refl, refl)
pair_at_paired (p ∷ rest) (suc k) h = inr (pair_at_paired rest k (omega arith))

-- the place of a pair
pub record PairPlace (pairs : List Pair) (x y : ℕ) : Type 0 where
  pub place : ℕ
  pub there : place < length pairs
  pub this : (pair_at pairs place).this ≡ x
  pub that : (pair_at pairs place).that ≡ y

pub paired_has_place : (pairs : List Pair) (x y : ℕ) → Paired pairs x y → PairPlace pairs x y
paired_has_place [] x y h = absurd h
paired_has_place (p ∷ rest) x y (inl (e, f)) = record { place = 0; there = omega arith; this = e; that = f }
paired_has_place (p ∷ rest) x y (inr h) =
    let at = paired_has_place rest x y h in
    record { place = suc at.place; there = omega (arith, at.there); this = at.this; that = at.that }

-- where none is astray, each pair names two listed actions
module _ (list : List ℕ) (pairs : List Pair) (none : NoneAstray list pairs) (x y : ℕ) (paired : Paired pairs x y) where
  abbrev at : PairPlace pairs x y
  at = paired_has_place pairs x y paired

  pub this_listed : In x list
  this_listed = go (in_decided x list)
    where
      go : Dec (In x list) → In x list
      go (yes h) = h
      go (no n) = absurd (none at.place at.there (this_unlisted (λ h. n (rw at.this at h))))

  pub that_listed : In y list
  that_listed = go (in_decided y list)
    where
      go : Dec (In y list) → In y list
      go (yes h) = h
      go (no n) = absurd (none at.place at.there (that_unlisted (λ h. n (rw at.that at h))))

-- ---- chains

pub paired_decided : (pairs : List Pair) (x y : ℕ) → Dec (Paired pairs x y)
paired_decided [] x y = no (λ h. h)
paired_decided (p ∷ rest) x y = go (ℕ_discrete p.this x) (ℕ_discrete p.that y) (paired_decided rest x y)
  where
    go : Dec (p.this ≡ x) → Dec (p.that ≡ y) → Dec (Paired rest x y) → Dec (Paired (p ∷ rest) x y)
    go _ _ (yes h) = yes (inr h)
    go (yes e) (yes f) (no n) = yes (inl (e, f))
    go (yes e) (no d) (no n) = no λ h. elim h [ inl k ↦ d k.1 | inr k ↦ n k ]
    go (no d) _ (no n) = no λ h. elim h [ inl k ↦ d k.0 | inr k ↦ n k ]

-- the actions that are the first of a pair
abbrev pub firsts : List Pair → List ℕ
firsts [] = []
firsts (p ∷ rest) = p.this ∷ firsts rest

paired_first : (pairs : List Pair) (x y : ℕ) → Paired pairs x y → In x (firsts pairs)
paired_first [] x y h = h
paired_first (p ∷ rest) x y (inl (e, f)) = inl (sym e)
paired_first (p ∷ rest) x y (inr h) = inr (paired_first rest x y h)

pub chained_decided : (pairs : List Pair) (x y : ℕ) → Dec (Chained pairs x y)
chained_decided pairs x y =
    chain_decided (Paired pairs) Anyone (firsts pairs) (λ x h. tt) (λ x y m n. paired_first pairs x y) (paired_decided pairs) x y tt tt

pub chained_first : (pairs : List Pair) {x y : ℕ} → Chained pairs x y → In x (firsts pairs)
chained_first pairs {x} {y} (one m n p) = paired_first pairs x y p
chained_first pairs (more c n p) = chained_first pairs c
