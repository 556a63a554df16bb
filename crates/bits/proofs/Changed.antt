-- What is in a word that one bit was put into, or taken out of, or that has what two words have in common.
-- Assumes nothing.
use mathlib.Core.Path.{◌≡◌, refl, sym, ap, ◌∙◌}
use mathlib.Core.Bool.{Bool, true, false, false≢true, not, ◌&&◌, ◌||◌, or-true}
use mathlib.Core.Logic.{◌⊎◌, inl, inr, ◌≢◌}
use Prim.Native.Nat.{ℕ}
use lib.Dec.{eqb}
use borrow.Author.Tests.{eqb-true, eq-eqb, ne_eqb}
use Rattle.bits.specs.Bits.{bit}
use Rattle.bits.proofs.Words.{bit_zero}

either : (a b : Bool) → (a || b) ≡ true → (a ≡ true) ⊎ (b ≡ true)
either true b e = inl refl
either false b e = inr e

both : (a b : Bool) → (a && b) ≡ true → (a ≡ true) × (b ≡ true)
both true b e = (refl, e)
both false b e = absurd (false≢true e)

unlike : (a : Bool) → not a ≡ true → a ≡ true → ⊥
unlike true e f = false≢true e
unlike false e f = false≢true f

-- k put into x
module _ (k x y : ℕ) (put : (j : ℕ) → bit y j ≡ (eqb k j || bit x j)) where
  pub put_here : bit y k ≡ true
  put_here = put k ∙ rw (eq-eqb k k refl)

  pub put_stays : (j : ℕ) → bit x j ≡ true → bit y j ≡ true
  put_stays j h = put j ∙ rw h (or-true (eqb k j))

  pub put_only : (j : ℕ) → bit y j ≡ true → (j ≡ k) ⊎ (bit x j ≡ true)
  put_only j h = elim (either (eqb k j) (bit x j) (sym (put j) ∙ h)) [ inl e ↦ inl (sym (eqb-true k j e)) | inr g ↦ inr g ]

-- k taken out of x
module _ (k x y : ℕ) (out : (j : ℕ) → bit y j ≡ (not (eqb k j) && bit x j)) where
  pub out_gone : bit y k ≡ false
  out_gone = out k ∙ rw (eq-eqb k k refl)

  pub out_stays : (j : ℕ) → j ≢ k → bit x j ≡ true → bit y j ≡ true
  out_stays j d h = out j ∙ rw (ne_eqb k j (λ e. d (sym e)), h)

  pub out_only : (j : ℕ) → bit y j ≡ true → (j ≢ k) × (bit x j ≡ true)
  out_only j h =
      let (apart, there) = both (not (eqb k j)) (bit x j) (sym (out j) ∙ h) in
      (λ e. unlike (eqb k j) apart (eq-eqb k j (sym e)), there)

-- what x and y have in common
module _ (x y z : ℕ) (common : (j : ℕ) → bit z j ≡ (bit x j && bit y j)) where
  pub common_both : (j : ℕ) → bit z j ≡ true → (bit x j ≡ true) × (bit y j ≡ true)
  common_both j h = both (bit x j) (bit y j) (sym (common j) ∙ h)

  pub common_none : z ≡ 0 → (j : ℕ) → bit x j ≡ true → bit y j ≡ true → ⊥
  common_none e j h g = false≢true (sym (bit_zero j) ∙ ap (λ (n : ℕ). bit n j) (sym e) ∙ common j ∙ rw (h, g))
