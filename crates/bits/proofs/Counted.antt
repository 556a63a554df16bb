-- How many of the first numbers a test tells: fewer once one that it told is left out.
-- Assumes nothing.
use mathlib.Core.Path.{◌≡◌, refl, subst, ◌∙◌}
use mathlib.Core.Bool.{Bool, true, false, not, ◌&&◌}
use Prim.Native.Nat.{ℕ, zero, suc, ◌+◌, ◌≤◌, ◌<◌}
use native.Mathlib.Decide.{ℕ_discrete}
use native.Mathlib.Omega.{arith}
use lib.Dec.{eqb}
use borrow.Author.Tests.{eq-eqb, ne_eqb}

abbrev one : Bool → ℕ
one true = 1
one false = 0

-- how many numbers below n the test tells
unfoldable pub counted : (ℕ → Bool) → ℕ → ℕ
counted f zero = 0
counted f (suc n) = one (f n) + counted f n

module _ (f g : ℕ → Bool) (k : ℕ) (told : f k ≡ true) (left_out : (j : ℕ) → g j ≡ (not (eqb k j) && f j)) where
  other_same : (j : ℕ) → (k ≡ j → ⊥) → g j ≡ f j
  other_same j o = left_out j ∙ rw (ne_eqb k j o)

  one_out : g k ≡ false
  one_out = left_out k ∙ rw (eq-eqb k k refl)

  counted_same : (n : ℕ) → n ≤ k → counted g n ≡ counted f n
  unfolding counted
  counted_same zero h = refl
  counted_same (suc n) h = rw (other_same n (λ e. omega arith), counted_same n (omega arith))

  pub counted_falls : (n : ℕ) → k < n → counted g n < counted f n
  unfolding counted
  counted_falls zero h = absurd (omega arith)
  counted_falls (suc n) h = go (ℕ_discrete k n) (λ l. counted_falls n l)
    where
      go : Dec (k ≡ n) → (k < n → counted g n < counted f n) → one (g n) + counted g n < one (f n) + counted f n
      go (yes e) rest =
          subst (λ (m : ℕ). one (g m) + counted g m < one (f m) + counted f m) e
          (rw (told, one_out, counted_same k (omega arith)) (omega arith))
      go (no o) rest = rw (other_same n o) (omega (arith, rest (omega arith)))
