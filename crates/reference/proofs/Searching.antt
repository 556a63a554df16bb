-- Searching: of the numbers that pass a test, one of least rank in a list, or the lowest below a bound.
-- Assumes nothing.
use Prim.Native.Nat.{ℕ, ◌≤◌, ◌<◌}
use native.Mathlib.Omega.{arith}
use mathlib.Core.Path.{refl}
use mathlib.Core.Logic.{inl, inr}
use mathlib.Core.Bool.{Bool}
use mathlib.Core.Option.{Option, none, some}
use mathlib.Core.List.{List, [], ◌∷◌}
use lib.Dec.{leb}
use Rattle.plain.specs.Choose.{pick}
use Rattle.ranks.specs.Ranks.{rising}
use Rattle.orders.specs.Orders.{In}
use Rattle.orders.proofs.Lists.{below_in, in_below}
use Rattle.reference.proofs.Tests.{Says, holds, fails, says_at_most}

unfoldable pub better : (ℕ → ℕ) → ℕ → Option ℕ → ℕ
better rank x none = x
better rank x (some y) = pick (leb (rank x) (rank y)) x y

unfoldable pub least : (ℕ → Bool) → (ℕ → ℕ) → List ℕ → Option ℕ
least test rank [] = none
least test rank (x ∷ rest) = pick (test x) (some (better rank x (least test rank rest))) (least test rank rest)

-- the numbers below n
unfoldable pub lowest : (ℕ → Bool) → ℕ → Option ℕ
lowest test n = least test (λ i. i) (rising n)

-- all that pass
unfoldable pub passing : (ℕ → Bool) → List ℕ → List ℕ
passing test [] = []
passing test (x ∷ rest) = pick (test x) (x ∷ passing test rest) (passing test rest)

-- ---- what a search tells

pub data Least (P : ℕ → Type 0) (rank : ℕ → ℕ) (xs : List ℕ) : Option ℕ → Type 0 where
  is_least : {x : ℕ} → In x xs → P x → ((y : ℕ) → In y xs → P y → rank x ≤ rank y) → Least P rank xs (some x)
  is_none : ((y : ℕ) → In y xs → P y → ⊥) → Least P rank xs none

pub data Lowest (P : ℕ → Type 0) (n : ℕ) : Option ℕ → Type 0 where
  is_lowest : {x : ℕ} → x < n → P x → ((y : ℕ) → y < x → P y → ⊥) → Lowest P n (some x)
  is_nowhere : ((y : ℕ) → y < n → P y → ⊥) → Lowest P n none

module _ {P : ℕ → Type 0} {test : ℕ → Bool} (says : (y : ℕ) → Says (P y) (test y)) where
  module _ (rank : ℕ → ℕ) where
    better_least :
        (x : ℕ) (rest : List ℕ) → P x → {o : Option ℕ} → Least P rank rest o → Least P rank (x ∷ rest) (some (better rank x o))
    unfolding better
    better_least x rest p (is_none n) = is_least (inl refl) p (λ y h q. elim h [ inl e ↦ rw e (omega arith) | inr g ↦ absurd (n y g q) ])
    better_least x rest p (is_least {x = z} i q l) = go (says_at_most (rank x) (rank z))
      where
        go : {b : Bool} → Says (rank x ≤ rank z) b → Least P rank (x ∷ rest) (some (pick b x z))
        go (holds h) = is_least (inl refl) p (λ y j r. elim j [ inl e ↦ rw e (omega arith) | inr g ↦ omega (arith, l y g r) ])
        go (fails h) = is_least (inr i) q (λ y j r. elim j [ inl e ↦ rw e (omega arith) | inr g ↦ l y g r ])

    passed_over : (x : ℕ) (rest : List ℕ) → (P x → ⊥) → {o : Option ℕ} → Least P rank rest o → Least P rank (x ∷ rest) o
    passed_over x rest n (is_none m) = is_none (λ y h q. elim h [ inl e ↦ n (rw e at q) | inr g ↦ m y g q ])
    passed_over x rest n (is_least i p l) =
        is_least (inr i) p (λ y h q. elim h [ inl e ↦ absurd (n (rw e at q)) | inr g ↦ l y g q ])

    pub least_tells : (xs : List ℕ) → Least P rank xs (least test rank xs)
    unfolding least
    least_tells [] = is_none (λ y h p. h)
    least_tells (x ∷ rest) = go (says x) (least_tells rest)
      where
        go : {b : Bool} {o : Option ℕ} → Says (P x) b → Least P rank rest o → Least P rank (x ∷ rest) (pick b (some (better rank x o)) o)
        go (holds p) l = better_least x rest p l
        go (fails n) l = passed_over x rest n l

  pub lowest_tells : (n : ℕ) → Lowest P n (lowest test n)
  unfolding lowest
  lowest_tells n = go (least_tells (λ i. i) (rising n))
    where
      go : {o : Option ℕ} → Least P (λ i. i) (rising n) o → Lowest P n o
      go (is_none m) = is_nowhere (λ y h p. m y (below_in n y h) p)
      go (is_least {x = x} i p l) =
          let b = in_below n x i in
          is_lowest b p (λ y h q. omega (arith, l y (below_in n y (omega arith)) q))

  pub in_passing : (x : ℕ) (xs : List ℕ) → In x xs → P x → In x (passing test xs)
  unfolding passing
  in_passing x [] h p = h
  in_passing x (y ∷ rest) h p = go (says y) h (λ g. in_passing x rest g p)
    where
      go : {b : Bool} → Says (P y) b → In x (y ∷ rest) → (In x rest → In x (passing test rest)) → In x (pick b (y ∷ passing test rest) (passing test rest))
      go (holds q) (inl e) on = inl e
      go (holds q) (inr g) on = inr (on g)
      go (fails n) (inl e) on = absurd (n (rw e at p))
      go (fails n) (inr g) on = on g

  pub passing_in : (x : ℕ) (xs : List ℕ) → In x (passing test xs) → In x xs × P x
  unfolding passing
  passing_in x [] h = absurd h
  passing_in x (y ∷ rest) h = go (says y) h (passing_in x rest)
    where
      go : {b : Bool} → Says (P y) b → In x (pick b (y ∷ passing test rest) (passing test rest))
          → (In x (passing test rest) → In x rest × P x) → In x (y ∷ rest) × P x
      go (holds q) (inl e) on = (inl e, rw e q)
      go (holds q) (inr g) on = (inr (on g).0, (on g).1)
      go (fails n) g on = (inr (on g).0, (on g).1)
