-- The lowest number with a property that is decided, or the lowest two numbers: found below a bound, and one at most.
-- Assumes nothing.
use Prim.Native.Nat.{ℕ, zero, suc, ◌<◌}
use native.Mathlib.Omega.{arith}
use native.Mathlib.Decide.{ℕ_discrete}
use mathlib.Core.Path.{◌≡◌}
use mathlib.Core.Logic.{◌⊎◌, inl, inr}
use Rattle.charts.specs.Faults.{LowerTwo}

pub record Lowest (P : ℕ → Type 0) (n : ℕ) : Type 0 where
  pub who : ℕ
  pub below : who < n
  pub has : P who
  pub lower : (x : ℕ) → x < who → P x → ⊥

pub lowest_or_none : (P : ℕ → Type 0) → ((x : ℕ) → Dec (P x)) → (n : ℕ) → Lowest P n ⊎ ((x : ℕ) → x < n → P x → ⊥)
lowest_or_none P decided zero = inr (λ x h. absurd (omega arith))
lowest_or_none P decided (suc n) = go (lowest_or_none P decided n) (decided n)
  where
    go : Lowest P n ⊎ ((x : ℕ) → x < n → P x → ⊥) → Dec (P n) → Lowest P (suc n) ⊎ ((x : ℕ) → x < suc n → P x → ⊥)
    go (inl l) _ = inl (record { who = l.who; below = omega (arith, l.below); has = l.has; lower = l.lower })
    go (inr f) (yes p) = inl (record { who = n; below = omega arith; has = p; lower = f })
    go (inr f) (no m) = inr (λ x h p. last x h p (ℕ_discrete x n))
      where
        last : (x : ℕ) → x < suc n → P x → Dec (x ≡ n) → ⊥
        last x h p (yes e) = m (rw e at p)
        last x h p (no d) = f x (omega arith) p

pub lowest_same :
    {P : ℕ → Type 0} {i j : ℕ} → P i → ((x : ℕ) → x < i → P x → ⊥) → P j → ((x : ℕ) → x < j → P x → ⊥) → i ≡ j
lowest_same {P} {i} {j} p f q g =
    let above : i < j → ⊥ = λ h. g i h p in
    let below : j < i → ⊥ = λ h. f j h q in
    omega (arith, above, below)

-- ---- two numbers, by the first and then the second

pub record LowestTwo (P : ℕ → ℕ → Type 0) : Type 0 where
  pub one : ℕ
  pub other : ℕ
  pub has : P one other
  pub lower : (x y : ℕ) → LowerTwo x y one other → P x y → ⊥

module _
    (P : ℕ → ℕ → Type 0) (decided : (x y : ℕ) → Dec (P x y))
    (n : ℕ) (first_below : (x y : ℕ) → P x y → x < n) (second_below : (x y : ℕ) → P x y → y < n) where
  pub lowest_two_or_none : LowestTwo P ⊎ ((x y : ℕ) → P x y → ⊥)
  lowest_two_or_none = go (lowest_or_none (λ x. Lowest (P x) n) some_decided n)
    where
      none_at : (x : ℕ) → ((y : ℕ) → y < n → P x y → ⊥) → Lowest (P x) n → ⊥
      none_at x f l = f l.who l.below l.has

      some_decided : (x : ℕ) → Dec (Lowest (P x) n)
      some_decided x = elim (lowest_or_none (P x) (decided x) n) [ inl l ↦ yes l | inr f ↦ no (none_at x f) ]

      at : (x y : ℕ) → P x y → Lowest (P x) n
      at x y p = elim (lowest_or_none (P x) (decided x) n) [ inl l ↦ l | inr f ↦ absurd (f y (second_below x y p) p) ]

      before : (l : Lowest (λ x. Lowest (P x) n) n) → (x y : ℕ) → LowerTwo x y l.who l.has.who → P x y → ⊥
      before l x y (inl h) p = l.lower x h (at x y p)
      before l x y (inr (e, h)) p = l.has.lower y h (rw e at p)

      go : Lowest (λ x. Lowest (P x) n) n ⊎ ((x : ℕ) → x < n → Lowest (P x) n → ⊥) → LowestTwo P ⊎ ((x y : ℕ) → P x y → ⊥)
      go (inl l) = inl (record { one = l.who; other = l.has.who; has = l.has.has; lower = before l })
      go (inr f) = inr (λ x y p. f x (first_below x y p) (at x y p))

pub lowest_two_same :
    {P : ℕ → ℕ → Type 0} {i j k l : ℕ}
    → P i j → ((x y : ℕ) → LowerTwo x y i j → P x y → ⊥) → P k l → ((x y : ℕ) → LowerTwo x y k l → P x y → ⊥) → (i ≡ k) × (j ≡ l)
lowest_two_same {P} {i} {j} {k} {l} p f q g =
    let above : i < k → ⊥ = λ h. g i j (inl h) p in
    let below : k < i → ⊥ = λ h. f k l (inl h) q in
    let e : i ≡ k = omega (arith, above, below) in
    let after : j < l → ⊥ = λ h. g i j (inr (e, h)) p in
    let before : l < j → ⊥ = λ h. f k l (inr (omega (arith, e), h)) q in
    (e, omega (arith, after, before))
