-- The figure of different plans counts what it says: there are so many lists, no two the same, that each plan is one of them and each of them is a plan.
-- Assumes nothing.
use Prim.Native.Nat.{ℕ, ◌+◌}
use native.Mathlib.Omega.{arith}
use mathlib.Core.Path.{◌≡◌, refl, sym, ◌∙◌}
use mathlib.Core.Logic.{◌⊎◌, inl, inr}
use mathlib.Core.Bool.{Bool, true, false, not, and-eq-true_iff, or-true, false≢true}
use mathlib.Core.List.{List, [], ◌∷◌}
use lib.Dec.{eqb}
use lib.ListN.{length}
use borrow.Author.Tests.{eqb-true, eq-eqb}
use Rattle.plain.proofs.Tests.{either}
use Rattle.ranks.specs.Ranks.{one}
use Rattle.varied.specs.Figures.{same_list, is_among, different}
use Rattle.varied.proofs.Alike.{Among}

-- ---- what the tests tell

pub same_is_equal : (xs ys : List ℕ) → same_list xs ys ≡ true → xs ≡ ys
unfolding same_list
same_is_equal [] [] e = refl
same_is_equal [] (y ∷ ys) e = absurd (false≢true e)
same_is_equal (x ∷ xs) [] e = absurd (false≢true e)
same_is_equal (x ∷ xs) (y ∷ ys) e =
    let (heads, tails) = (and-eq-true_iff (eqb x y) (same_list xs ys)).0 e in
    let f = eqb-true x y heads in
    let g = same_is_equal xs ys tails in
    cc

pub equal_is_same : (xs : List ℕ) → same_list xs xs ≡ true
unfolding same_list
equal_is_same [] = refl
equal_is_same (x ∷ xs) = rw (eq-eqb x x refl) (equal_is_same xs)

is_among_tells : (p : List ℕ) (plans : List (List ℕ)) → is_among p plans ≡ true → Among p plans
unfolding is_among
is_among_tells p [] e = absurd (false≢true e)
is_among_tells p (other ∷ rest) e = go (either (same_list p other) (is_among p rest) e) (is_among_tells p rest)
  where
    go : (same_list p other ≡ true) ⊎ (is_among p rest ≡ true) → (is_among p rest ≡ true → Among p rest) → (p ≡ other) ⊎ Among p rest
    go (inl f) later = inl (same_is_equal p other f)
    go (inr f) later = inr (later f)

among_is_told : (p : List ℕ) (plans : List (List ℕ)) → Among p plans → is_among p plans ≡ true
unfolding is_among
among_is_told p [] h = absurd h
among_is_told p (other ∷ rest) (inl e) = rw (← e, equal_is_same p)
among_is_told p (other ∷ rest) (inr h) = rw (among_is_told p rest h) (or-true (same_list p other))

-- ---- the different ones

-- no two are the same
abbrev pub AllDiffer : List (List ℕ) → Type 0
AllDiffer [] = Unit {0}
AllDiffer (p ∷ rest) = (Among p rest → ⊥) × AllDiffer rest

pub record Kinds (plans : List (List ℕ)) (n : ℕ) : Type 0 where
  pub kinds : List (List ℕ)
  pub differ : AllDiffer kinds
  pub all : (p : List ℕ) → Among p plans → Among p kinds
  pub only : (p : List ℕ) → Among p kinds → Among p plans
  pub many : length kinds ≡ n

pub different_counts_kinds : (plans : List (List ℕ)) → Kinds plans (different plans)
unfolding different
different_counts_kinds [] = record { kinds = []; differ = tt; all = λ p h. h; only = λ p h. h; many = refl }
different_counts_kinds (p ∷ rest) = go (is_among p rest) refl (different_counts_kinds rest)
  where
    go : (b : Bool) → is_among p rest ≡ b → Kinds rest (different rest) → Kinds (p ∷ rest) (one (not b) + different rest)
    go true e k = record {
      kinds = k.kinds;
      differ = k.differ;
      all = λ q h. elim h [ inl f ↦ k.all q (rw f (is_among_tells p rest e)) | inr g ↦ k.all q g ];
      only = λ q h. inr (k.only q h);
      many = omega (arith, k.many);
    }
    go false e k = record {
      kinds = p ∷ k.kinds;
      differ = (λ h. false≢true (sym e ∙ among_is_told p rest (k.only p h)), k.differ);
      all = λ q h. elim h [ inl f ↦ inl f | inr g ↦ inr (k.all q g) ];
      only = λ q h. elim h [ inl f ↦ inl f | inr g ↦ inr (k.only q g) ];
      many = omega (arith, k.many);
    }
