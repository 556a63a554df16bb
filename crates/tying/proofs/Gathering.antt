-- The words of a word's numbers joined to it one after another.
-- Assumes nothing.
use mathlib.Core.Path.{◌≡◌, sym, ◌∙◌}
use mathlib.Core.Logic.{◌⊎◌, inl, inr}
use mathlib.Core.Bool.{not, ◌&&◌, ◌||◌, or-true}
use mathlib.Core.List.{List}
use Prim.Native.Nat.{ℕ}
use native.Mathlib.Decide.{ℕ_discrete}
use lib.Dec.{eqb}
use lib.ListN.{get_or}
use Rattle.plain.proofs.Tests.{either}
use Rattle.bits.specs.Bits.{bit}
use Rattle.bits.proofs.Words.{bit_zero}
use Rattle.bits.proofs.Members.{not_both}
use Rattle.bits.proofs.Changed.{out_stays, out_only}
use Rattle.hanging.specs.Hanging.{InWord}
use Rattle.tying.specs.Tying.{Gathered}

-- those of the word that are not in the rest are joined
pub record GatheredTo (word rest : ℕ) (words : List ℕ) (all : ℕ) : Type 0 where
  pub rest_of : (y : ℕ) → InWord rest y → InWord word y
  pub kept : (x : ℕ) → InWord word x → InWord all x
  pub joined : (x y : ℕ) → InWord word y → (InWord rest y → ⊥) → InWord (get_or words y 0) x → InWord all x
  pub only : (x : ℕ) → InWord all x → InWord word x ⊎ ((y : ℕ) × (InWord word y × InWord (get_or words y 0) x))

pub gathering_begins : (word : ℕ) (words : List ℕ) → GatheredTo word word words word
gathering_begins word words = record {
  rest_of = λ y h. h;
  kept = λ x h. h;
  joined = λ x y h out t. absurd (out h);
  only = λ x h. inl h;
}

module _ {word rest : ℕ} {words : List ℕ} {all : ℕ} (to : GatheredTo word rest words all) where
  pub gathering_on :
      (y : ℕ) → InWord rest y → (rest' all' : ℕ) → ((j : ℕ) → bit rest' j ≡ (not (eqb y j) && bit rest j))
      → ((j : ℕ) → bit all' j ≡ (bit (get_or words y 0) j || bit all j)) → GatheredTo word rest' words all'
  gathering_on y there rest' all' out put = record {
    rest_of = λ z h. to.rest_of z (out_only y rest rest' out z h).1;
    kept = λ x h. stays x (to.kept x h);
    joined = λ x z h gone t. one x z h gone t (ℕ_discrete z y);
    only = λ x h.
        elim (either (bit (get_or words y 0) x) (bit all x) (sym (put x) ∙ h)) [ inl t ↦ inr (y, (to.rest_of y there, t)) | inr g ↦ to.only x g ];
  }
    where
      stays : (x : ℕ) → InWord all x → InWord all' x
      stays x h = put x ∙ rw h (or-true (bit (get_or words y 0) x))

      one : (x z : ℕ) → InWord word z → (InWord rest' z → ⊥) → InWord (get_or words z 0) x → Dec (z ≡ y) → InWord all' x
      one x z h gone t (yes e) = put x ∙ rw (rw e at t)
      one x z h gone t (no d) = stays x (to.joined x z h (λ r. gone (out_stays y rest rest' out z d r)) t)

  pub gathering_ends : rest ≡ 0 → Gathered word words all
  gathering_ends e = record {
    kept = to.kept;
    joined = λ x y h t. to.joined x y h (λ r. not_both r (rw e (bit_zero y))) t;
    only = to.only;
  }
