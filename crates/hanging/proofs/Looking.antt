-- Those that are left are looked at one after another, the lowest first, until one has nothing left before it.
-- Assumes nothing.
use mathlib.Core.Path.{◌≡◌, sym, ap, ◌∙◌}
use mathlib.Core.Logic.{◌≢◌}
use mathlib.Core.Bool.{false≢true, not, ◌&&◌}
use mathlib.Core.List.{List}
use Prim.Native.Nat.{ℕ, ◌^◌, ◌<◌}
use native.Mathlib.Decide.{ℕ_discrete}
use native.Mathlib.Omega.{arith}
use lib.Dec.{eqb}
use lib.ListN.{get_or}
use Rattle.bits.specs.Bits.{bit, LowestBit}
use Rattle.bits.proofs.Words.{bit_zero, trailing_lowest}
use Rattle.bits.proofs.Changed.{out_stays, out_only, common_both, common_none}
use Rattle.hanging.specs.Hanging.{InWord, Free, LeastFree}

-- those that are not in the rest have something left before them
pub record LookedTo (before : List ℕ) (left rest : ℕ) : Type 0 where
  pub rest_of : (y : ℕ) → InWord rest y → InWord left y
  pub barred : (y : ℕ) → InWord left y → (InWord rest y → ⊥) → Free before left y → ⊥

pub looked_begins : (before : List ℕ) (left : ℕ) → LookedTo before left left
looked_begins before left = record { rest_of = λ y h. h; barred = λ y h f. absurd (f h) }

-- what y misses
module _ (before : List ℕ) (left y missing : ℕ) (common : (j : ℕ) → bit missing j ≡ (bit (get_or before y 0) j && bit left j)) where
  pub nothing_missing : missing ≡ 0 → Free before left y
  nothing_missing e = common_none (get_or before y 0) left missing common e

  pub something_missing : missing ≢ 0 → missing < 2 ^ 64 → Free before left y → ⊥
  something_missing some small free =
      let low = trailing_lowest 64 missing (omega (arith, some)) small in
      let (comes, is-left) = common_both (get_or before y 0) left missing common _ low.there in
      free _ comes is-left

module _ {before : List ℕ} {left rest : ℕ} (to : LookedTo before left rest) where
  pub looked_on : (y : ℕ) → (Free before left y → ⊥) → (rest' : ℕ) → ((j : ℕ) → bit rest' j ≡ (not (eqb y j) && bit rest j)) → LookedTo before left rest'
  looked_on y bars rest' out = record {
    rest_of = λ z h. to.rest_of z (out_only y rest rest' out z h).1;
    barred = λ z l f free. go z l f free (ℕ_discrete z y);
  }
    where
      go : (z : ℕ) → InWord left z → (InWord rest' z → ⊥) → Free before left z → Dec (z ≡ y) → ⊥
      go z l f free (yes e) = bars (rw e at free)
      go z l f free (no d) = to.barred z l (λ h. f (out_stays y rest rest' out z d h)) free

  pub looked_free : {y : ℕ} → LowestBit 64 rest y → Free before left y → LeastFree before left y
  looked_free {y} low free = record {
    free = λ h. (to.rest_of y low.there, free);
    least = λ z h l. to.barred z l (λ r. false≢true (sym (low.none_below z h) ∙ r));
    none = λ h z l f. absurd (omega (arith, low.room));
  }

  pub looked_at_all : rest ≡ 0 → LeastFree before left 64
  looked_at_all e = record {
    free = λ h. absurd (omega arith);
    least = λ z h l. to.barred z l (gone z);
    none = λ h z l. to.barred z l (gone z);
  }
    where
      gone : (z : ℕ) → InWord rest z → ⊥
      gone z h = false≢true (sym (bit_zero z) ∙ ap (λ (n : ℕ). bit n z) (sym e) ∙ h)
