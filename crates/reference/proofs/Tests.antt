-- Tests that compute, each read through a view: what it says, or that it is not so.
-- Assumes nothing.
use Prim.Native.Nat.{ℕ, ◌≤◌, ◌<◌}
use native.Mathlib.Omega.{arith}
use mathlib.Core.Path.{◌≡◌, refl}
use mathlib.Core.Logic.{◌⊎◌, inl, inr}
use mathlib.Core.Bool.{Bool, true, false, not, ◌&&◌, ◌||◌}
use mathlib.Core.List.{List, [], ◌∷◌}
use lib.Dec.{T, eqb, leb, ltb}
use borrow.Author.Tests.{eqb-true, eqb-false, leb-true, leb-false}
use Rattle.orders.specs.Orders.{In}

pub data Says (P : Type 0) : Bool → Type 0 where
  holds : P → Says P true
  fails : (P → ⊥) → Says P false

pub so : {P : Type 0} {b : Bool} → Says P b → T b → P
so (holds p) t = p
so (fails n) t = absurd t

-- what is tested is so, if it is not so that it is not
pub settled : {P : Type 0} {b : Bool} → Says P b → ((P → ⊥) → ⊥) → P
settled (holds p) m = p
settled (fails n) m = absurd (m n)

says_by : {P : Type 0} (b : Bool) → (b ≡ true → P) → (b ≡ false → P → ⊥) → Says P b
says_by true f g = holds (f refl)
says_by false f g = fails (g refl)

-- the same said in other words
pub says_same : {P Q : Type 0} {b : Bool} → (P → Q) → (Q → P) → Says P b → Says Q b
says_same f g (holds p) = holds (f p)
says_same f g (fails n) = fails (λ q. n (g q))

-- ---- numbers

pub says_equal : (x y : ℕ) → Says (x ≡ y) (eqb x y)
says_equal x y = says_by (eqb x y) (eqb-true x y) (eqb-false x y)

pub says_at_most : (x y : ℕ) → Says (x ≤ y) (leb x y)
says_at_most x y = says_by (leb x y) (leb-true x y) (λ e h. omega (arith, leb-false x y e))

pub says_below : (x y : ℕ) → Says (x < y) (ltb x y)
says_below x y = says_at_most _ y

-- ---- not, and, or

pub says_not : {P : Type 0} {b : Bool} → Says P b → Says (P → ⊥) (not b)
says_not (holds p) = fails (λ n. n p)
says_not (fails n) = holds n

pub says_both : {P Q : Type 0} {a b : Bool} → Says P a → Says Q b → Says (P × Q) (a && b)
says_both (holds p) (holds q) = holds (p, q)
says_both (holds p) (fails n) = fails (λ h. n h.1)
says_both (fails n) q = fails (λ h. n h.0)

pub says_either : {P Q : Type 0} {a b : Bool} → Says P a → Says Q b → Says (P ⊎ Q) (a || b)
says_either (holds p) q = holds (inl p)
says_either (fails n) (holds q) = holds (inr q)
says_either (fails n) (fails m) = fails λ h. elim h [ inl p ↦ n p | inr q ↦ m q ]

pub says_then : {P Q : Type 0} {a b : Bool} → Says P a → Says Q b → Says (P → Q) (not a || b)
says_then (holds p) (holds q) = holds (λ _. q)
says_then (holds p) (fails m) = fails (λ f. m (f p))
says_then (fails n) q = holds (λ p. absurd (n p))

-- ---- lists

unfoldable pub among : List ℕ → ℕ → Bool
among [] x = false
among (y ∷ rest) x = eqb x y || among rest x

unfoldable pub every : (ℕ → Bool) → List ℕ → Bool
every test [] = true
every test (y ∷ rest) = test y && every test rest

unfoldable pub any : (ℕ → Bool) → List ℕ → Bool
any test [] = false
any test (y ∷ rest) = test y || any test rest

pub says_among : (x : ℕ) (ys : List ℕ) → Says (In x ys) (among ys x)
unfolding among
says_among x [] = fails (λ h. h)
says_among x (y ∷ rest) = says_either (says_equal x y) (says_among x rest)

module _ {P : ℕ → Type 0} {test : ℕ → Bool} (says : (y : ℕ) → Says (P y) (test y)) where
  pub says_every : (ys : List ℕ) → Says ((y : ℕ) → In y ys → P y) (every test ys)
  unfolding every
  says_every [] = holds (λ y h. absurd h)
  says_every (z ∷ rest) =
      says_same (λ h y i. elim i [ inl e ↦ rw e h.0 | inr g ↦ h.1 y g ]) (λ f. (f z (inl refl), λ y i. f y (inr i)))
      (says_both (says z) (says_every rest))

  pub says_any : (ys : List ℕ) → Says ((y : ℕ) × (In y ys × P y)) (any test ys)
  unfolding any
  says_any [] = fails (λ h. h.1.0)
  says_any (z ∷ rest) =
      says_same
      (λ h. elim h [ inl p ↦ (z, (inl refl, p)) | inr (y, (i, p)) ↦ (y, (inr i, p)) ])
      (λ (y, (i, p)). elim i [ inl e ↦ inl (rw e at p) | inr g ↦ inr (y, (g, p)) ])
      (says_either (says z) (says_any rest))

-- ---- two lists are equal

abbrev pub alike : {A : Type 0} → (A → A → Bool) → List A → List A → Bool
alike same [] [] = true
alike same [] (y ∷ ys) = false
alike same (x ∷ xs) [] = false
alike same (x ∷ xs) (y ∷ ys) = same x y && alike same xs ys

pub says_alike : {A : Type 0} {same : A → A → Bool} → ((x y : A) → Says (x ≡ y) (same x y)) → (xs ys : List A) → Says (xs ≡ ys) (alike same xs ys)
says_alike says [] [] = holds refl
says_alike says [] (y ∷ ys) = fails (λ e. let z : ◌≡◌ {A = ℕ} 0 1 = cc in omega arith)
says_alike says (x ∷ xs) [] = fails (λ e. let z : ◌≡◌ {A = ℕ} 0 1 = cc in omega arith)
says_alike says (x ∷ xs) (y ∷ ys) = says_same (λ (d, e). cc) (λ e. (cc, cc)) (says_both (says x y) (says_alike says xs ys))
