-- The ranks put in while variables are woken: those of the variables whose bits are taken out already.
-- Assumes nothing.
use mathlib.Core.Path.{◌≡◌, refl, sym, subst, ◌∙◌}
use mathlib.Core.Logic.{◌⊎◌, inl, inr}
use mathlib.Core.Bool.{true, false, not, ◌&&◌, and-false}
use mathlib.Core.List.{List}
use Prim.Native.Nat.{ℕ}
use native.Mathlib.Decide.{ℕ_discrete}
use lib.Dec.{eqb}
use lib.ListN.{length}
use borrow.Author.Tests.{eq-eqb, ne_eqb}
use Rattle.bits.specs.Bits.{bit}
use Rattle.bits.proofs.Words.{bit_zero}
use Rattle.bits.proofs.Members.{not_both}
use Rattle.opening.specs.Opening.{step_of, Leads, Joined, Woken}
use Rattle.opening.proofs.Joining.{joined_none, joined_as, joined_then}

-- r is the rank of the next action of a variable whose bit is set and no longer to come
pub record Passed (some rest : ℕ) (ranks steps state : List ℕ) (r : ℕ) : Type 0 where
  pub var : ℕ
  pub there : bit some var ≡ true
  pub gone : bit rest var ≡ false
  pub leads : Leads ranks (step_of steps state var) r

-- the bits to come are some of those, and the ranks of the others are put in
pub record Waking (some : ℕ) (ranks steps state before : List ℕ) (rest : ℕ) (after : List ℕ) : Type 0 where
  pub some_left : (w : ℕ) → bit rest w ≡ true → bit some w ≡ true
  pub passed : Joined (Passed some rest ranks steps state) before after

pub waking_starts : (some : ℕ) (ranks steps state set : List ℕ) → length set ≡ 4 → Waking some ranks steps state set some set
waking_starts some ranks steps state set long =
    record { some_left = λ w h. h; passed = joined_none long (λ r p. not_both p.there p.gone) }

module _ {some : ℕ} {ranks steps state before : List ℕ} {rest : ℕ} {after : List ℕ} (waking : Waking some ranks steps state before rest after) where
  module _ (w rest' : ℕ) {after' : List ℕ} (there : bit rest w ≡ true) (less : (j : ℕ) → bit rest' j ≡ (not (eqb w j) && bit rest j))
      (own : Joined (Leads ranks (step_of steps state w)) after after') where
    own_gone : bit rest' w ≡ false
    own_gone = less w ∙ rw (eq-eqb w w refl)

    others_same : (j : ℕ) → (w ≡ j → ⊥) → bit rest' j ≡ bit rest j
    others_same j o = less j ∙ rw (ne_eqb w j o)

    pub waking_goes_on : Waking some ranks steps state before rest' after'
    waking_goes_on = record {
      some_left = λ j h. waking.some_left j (left j h (ℕ_discrete w j));
      passed = joined_then waking.passed own still now (λ r p. back r p (ℕ_discrete w p.var));
    }
      where
        left : (j : ℕ) → bit rest' j ≡ true → Dec (w ≡ j) → bit rest j ≡ true
        left j h (yes e) = absurd (not_both h (subst (λ (x : ℕ). bit rest' x ≡ false) e own_gone))
        left j h (no o) = sym (others_same j o) ∙ h

        still : (r : ℕ) → Passed some rest ranks steps state r → Passed some rest' ranks steps state r
        still r p = record { var = p.var; there = p.there; gone = less p.var ∙ rw (p.gone, and-false); leads = p.leads }

        now : (r : ℕ) → Leads ranks (step_of steps state w) r → Passed some rest' ranks steps state r
        now r l = record { var = w; there = waking.some_left w there; gone = own_gone; leads = l }

        back : (r : ℕ) (p : Passed some rest' ranks steps state r) → Dec (w ≡ p.var) → Passed some rest ranks steps state r ⊎ Leads ranks (step_of steps state w) r
        back r p (yes e) = inr (subst (λ (x : ℕ). Leads ranks (step_of steps state x) r) (sym e) p.leads)
        back r p (no o) = inl record { var = p.var; there = p.there; gone = sym (others_same p.var o) ∙ p.gone; leads = p.leads }

  pub waking_ends : rest ≡ 0 → Joined (Woken some ranks steps state) before after
  waking_ends none =
      joined_as waking.passed (λ r p. record { var = p.var; there = p.there; leads = p.leads })
      (λ r w. record { var = w.var; there = w.there; gone = rw none (bit_zero w.var); leads = w.leads })
