-- Two actions weighed as one number: none, one, some after others; and what the least weighed tells.
-- Assumes nothing.
use mathlib.Core.Path.{◌≡◌, refl, ◌∙◌}
use mathlib.Core.Logic.{◌⊎◌, inl, inr, ◌≢◌}
use Prim.Native.Nat.{ℕ, ◌+◌, ◌≤◌, ◌<◌}
use native.Mathlib.Omega.{arith}
use Rattle.std.specs.Prelude.{Option, Some}
use Rattle.linking.specs.Linking.{Rows, Linked}
use Rattle.lacking.specs.Lacking.{as_one, as_number, Weighs, Just, SetBefore, LeftAfter}

abbrev Such : Type 1
Such = ℕ → ℕ → Type 0

-- the two that were found
abbrev Found : Rows → Such → Option (ℕ × ℕ) → Type 0
Found rows such r = (x : ℕ) × (y : ℕ) × such x y × (r ≡ Some (x, y)) × (Linked rows x y → ⊥)

module _ {rows : Rows} where
  pub none_weighed : {such : Such} {best : Option (ℕ × ℕ)} → ((x y : ℕ) → such x y → ⊥) → Weighs rows such best best
  none_weighed none = record { lower = omega arith; found = inl refl; rest = λ x y s. absurd (none x y s) }

  -- the same said otherwise
  pub weighed_as :
      {some other : Such} {best r : Option (ℕ × ℕ)} → ((x y : ℕ) → some x y → other x y) → ((x y : ℕ) → other x y → some x y)
      → Weighs rows some best r → Weighs rows other best r
  weighed_as {some} {other} {best} {r} there back w = record {
    lower = w.lower;
    found = go w.found;
    rest = λ x y s. w.rest x y (back x y s);
  }
    where
      go : (r ≡ best) ⊎ Found rows some r → (r ≡ best) ⊎ Found rows other r
      go (inl e) = inl e
      go (inr (x, y, s, e, out)) = inr (x, y, there x y s, e, out)

  -- some, then others
  pub both_weighed :
      {some other : Such} {best mid r : Option (ℕ × ℕ)} → Weighs rows some best mid → Weighs rows other mid r
      → Weighs rows (λ x y. some x y ⊎ other x y) best r
  both_weighed {some} {other} {best} {mid} {r} w v = record {
    lower = omega (arith, w.lower, v.lower);
    found = go w.found v.found;
    rest = rest;
  }
    where
      Both : Such
      Both x y = some x y ⊎ other x y

      first : (r ≡ mid) → (mid ≡ best) ⊎ Found rows some mid → (r ≡ best) ⊎ Found rows Both r
      first e (inl f) = inl (e ∙ f)
      first e (inr (x, y, s, f, out)) = inr (x, y, inl s, e ∙ f, out)

      go : (mid ≡ best) ⊎ Found rows some mid → (r ≡ mid) ⊎ Found rows other r → (r ≡ best) ⊎ Found rows Both r
      go f (inl e) = first e f
      go f (inr (x, y, s, e, out)) = inr (x, y, inr s, e, out)

      rest : (x y : ℕ) → Both x y → Linked rows x y ⊎ (as_number r ≤ as_one x y)
      rest x y (inl s) = elim (w.rest x y s) [ inl h ↦ inl h | inr l ↦ inr (omega (arith, v.lower)) ]
      rest x y (inr s) = v.rest x y s

  -- ---- one

  pub start_passed : {best : Option (ℕ × ℕ)} {q start setter i : ℕ} → q ≡ start → Weighs rows (SetBefore q start setter i) best best
  start_passed e = none_weighed (λ x y s. s.0 e)

  pub setter_weighed :
      {best r : Option (ℕ × ℕ)} {q start setter i : ℕ} → q ≢ start → Weighs rows (Just setter i) best r → Weighs rows (SetBefore q start setter i) best r
  setter_weighed away = weighed_as (λ x y s. (away, s)) (λ x y s. s.1)

  pub end_passed : {best : Option (ℕ × ℕ)} {i step : ℕ} → step < 2 → Weighs rows (LeftAfter i step) best best
  end_passed h = none_weighed (λ x y s. omega (arith, s.1))

  pub leaver_weighed : {best r : Option (ℕ × ℕ)} {i step l : ℕ} → step ≡ l + 2 → Weighs rows (Just i l) best r → Weighs rows (LeftAfter i step) best r
  leaver_weighed is = weighed_as (λ x y s. (s.0, omega (arith, s.1))) (λ x y s. (s.0, omega (arith, s.1)))
