-- How often a number stands in a list, and what is in the list: once at most where none repeats.
-- Assumes nothing.
use mathlib.Core.Path.{◌≡◌, refl, sym, ap}
use mathlib.Core.Logic.{inl, inr}
use mathlib.Core.List.{List, [], ◌∷◌}
use Prim.Native.Nat.{ℕ, ◌≤◌}
use native.Mathlib.Omega.{arith}
use native.Mathlib.Decide.{ℕ_discrete}
use borrow.Author.Tests.{eq-eqb, ne_eqb}
use Rattle.ranks.specs.Ranks.{one, count}
use Rattle.orders.specs.Orders.{In, Distinct}
use Rattle.orders.proofs.Lists.{in_decided}

pub counted_in : (x : ℕ) (ys : List ℕ) → 1 ≤ count x ys → In x ys
counted_in x [] h = absurd (omega arith)
counted_in x (y ∷ ys) h = go (ℕ_discrete y x) (counted_in x ys)
  where
    go : Dec (y ≡ x) → (1 ≤ count x ys → In x ys) → In x (y ∷ ys)
    go (yes e) _ = inl (sym e)
    go (no d) on = inr (on (omega (arith, ap one (ne_eqb y x d))))

pub in_counted : (x : ℕ) (ys : List ℕ) → In x ys → 1 ≤ count x ys
in_counted x [] h = absurd h
in_counted x (y ∷ ys) (inl e) = omega (arith, ap one (eq-eqb y x (sym e)))
in_counted x (y ∷ ys) (inr h) = omega (arith, in_counted x ys h)

pub absent_count : (x : ℕ) (ys : List ℕ) → (In x ys → ⊥) → count x ys ≡ 0
absent_count x ys n = let none : 1 ≤ count x ys → ⊥ = λ c. n (counted_in x ys c) in omega (arith, none)

pub distinct_once : (ys : List ℕ) → Distinct ys → (x : ℕ) → count x ys ≤ 1
distinct_once [] d x = omega arith
distinct_once (y ∷ ys) (n, d) x = go (ℕ_discrete y x) (in_decided x ys) (distinct_once ys d x)
  where
    go : Dec (y ≡ x) → Dec (In x ys) → count x ys ≤ 1 → count x (y ∷ ys) ≤ 1
    go (no e) _ h = omega (arith, ap one (ne_eqb y x e))
    go (yes e) (yes g) h = absurd (n (rw e g))
    go (yes e) (no g) h = omega (arith, ap one (eq-eqb y x e), absent_count x ys g)

pub once_distinct : (ys : List ℕ) → ((x : ℕ) → count x ys ≤ 1) → Distinct ys
once_distinct [] f = tt
once_distinct (y ∷ ys) f = (
  λ h. omega (arith, f y, ap one (eq-eqb y y refl), in_counted y ys h),
  once_distinct ys (λ x. omega (arith, f x)),
)

-- two lists without repeats that hold the same numbers hold each as often
pub distinct_same_count :
    (xs ys : List ℕ) → Distinct xs → Distinct ys → ((x : ℕ) → In x xs → In x ys) → ((x : ℕ) → In x ys → In x xs)
    → (x : ℕ) → count x xs ≡ count x ys
distinct_same_count xs ys d e f g x = go (in_decided x xs)
  where
    go : Dec (In x xs) → count x xs ≡ count x ys
    go (yes h) = omega (arith, distinct_once xs d x, distinct_once ys e x, in_counted x xs h, in_counted x ys (f x h))
    go (no n) = omega (arith, absent_count x xs n, absent_count x ys (λ h. n (g x h)))
