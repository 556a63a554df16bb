-- What members lack of what is wanted before them, one member after another, and the lowest two.
-- Assumes nothing.
use mathlib.Core.Path.{◌≡◌, refl, sym, ◌∙◌}
use mathlib.Core.Logic.{inl, inr}
use mathlib.Core.Bool.{Bool, true, false, false≢true, true≢false, not, ◌&&◌, ◌||◌, or-true}
use mathlib.Core.List.{List}
use Prim.Native.Nat.{ℕ}
use native.Mathlib.Decide.{ℕ_discrete}
use lib.Dec.{eqb}
use lib.ListN.{get_or}
use Rattle.std.specs.Prelude.{Some, None}
use Rattle.plain.proofs.Tests.{either}
use Rattle.bits.specs.Bits.{bit, LowestBit}
use Rattle.bits.proofs.Words.{bit_zero}
use Rattle.bits.proofs.Members.{not_both}
use Rattle.bits.proofs.Changed.{out_stays, out_only, common_both}
use Rattle.hanging.specs.Hanging.{InWord}
use Rattle.tying.specs.Tying.{Low, Tied}
use Rattle.charts.specs.Faults.{LowerTwo}
use Rattle.lacking.specs.Lacking.{LacksOf, nothing, two}
use Rattle.comparing.specs.Comparing.{Wanted, Lacking, LacksAny, LowestSecond}

-- ---- what one word has and another has not

module _ (x y z : ℕ) (out : (j : ℕ) → bit z j ≡ (not (bit y j) && bit x j)) where
  pub without_has : (j : ℕ) → InWord x j → (InWord y j → ⊥) → InWord z j
  without_has j h n = go (bit y j) refl
    where
      go : (b : Bool) → bit y j ≡ b → InWord z j
      go true e = absurd (n e)
      go false e = out j ∙ rw (e, h)

  pub without_only : (j : ℕ) → InWord z j → InWord x j × (InWord y j → ⊥)
  without_only j h = go (bit y j) refl
    where
      go : (b : Bool) → bit y j ≡ b → InWord x j × (InWord y j → ⊥)
      go true e = absurd (true≢false (sym h ∙ out j ∙ rw e))
      go false e = (sym (out j ∙ rw e) ∙ h, λ g. not_both g e)

-- ---- one member after another

module _ (members : ℕ) (words ties : List ℕ) where
  -- those that are not in the rest are passed
  pub record LacksTo (rest any : ℕ) : Type 0 where
    pub rest_of : (y : ℕ) → InWord rest y → InWord members y
    pub there : (x y : ℕ) → Lacking members words ties x y → (InWord rest y → ⊥) → InWord any x
    pub only : (x : ℕ) → InWord any x → (y : ℕ) × Lacking members words ties x y

  pub lacks_begins : LacksTo members 0
  lacks_begins = record {
    rest_of = λ y h. h;
    there = λ x y l out. absurd (out l.0);
    only = λ x h. absurd (false≢true (sym (bit_zero x) ∙ h));
  }

  module _ {rest any : ℕ} (to : LacksTo rest any) where
    pub lacks_on :
        (y : ℕ) → InWord rest y → (rest' more any' : ℕ) → ((j : ℕ) → bit rest' j ≡ (not (eqb y j) && bit rest j))
        → ((j : ℕ) → bit more j ≡ (not (bit (get_or ties y 0) j) && bit (get_or words y 0) j)) → ((j : ℕ) → bit any' j ≡ (bit more j || bit any j))
        → LacksTo rest' any'
    lacks_on y here rest' more any' out lack put = record {
      rest_of = λ z h. to.rest_of z (out_only y rest rest' out z h).1;
      there = λ x z l gone. one x z l gone (ℕ_discrete z y);
      only = λ x h.
          elim (either (bit more x) (bit any x) (sym (put x) ∙ h)) [
            | inl m ↦ let (w, n) = without_only (get_or words y 0) (get_or ties y 0) more lack x m in (y, (to.rest_of y here, w, n))
            | inr g ↦ to.only x g
          ];
    }
      where
        one : (x z : ℕ) → Lacking members words ties x z → (InWord rest' z → ⊥) → Dec (z ≡ y) → InWord any' x
        one x z l gone (yes e) =
            put x ∙ rw (without_has (get_or words y 0) (get_or ties y 0) more lack x (rw e at l.1) (rw e at l.2))
        one x z l gone (no d) =
            put x ∙ rw (to.there x z l (λ r. gone (out_stays y rest rest' out z d r))) (or-true (bit more x))

    pub lacks_ends : rest ≡ 0 → LacksAny members words ties any
    lacks_ends e = record { there = λ x y l. to.there x y l (λ r. not_both r (rw e (bit_zero y))); only = to.only }

  -- ---- the lowest member that lacks x

  module _ (x : ℕ) where
    -- those that are not in the rest do not lack it, and are lower
    pub record NoneTo (rest : ℕ) : Type 0 where
      pub rest_of : (y : ℕ) → InWord rest y → InWord members y
      pub none : (y : ℕ) → InWord members y → (InWord rest y → ⊥) → Lacking members words ties x y → ⊥

    pub none_begins : NoneTo members
    none_begins = record { rest_of = λ y h. h; none = λ y m out. absurd (out m) }

    module _ {rest : ℕ} (to : NoneTo rest) {y : ℕ} (low : LowestBit 64 rest y) (more : ℕ)
        (lack : (j : ℕ) → bit more j ≡ (not (bit (get_or ties y 0) j) && bit (get_or words y 0) j)) where
      pub none_on : bit more x ≡ false → (rest' : ℕ) → ((j : ℕ) → bit rest' j ≡ (not (eqb y j) && bit rest j)) → NoneTo rest'
      none_on fails rest' out = record {
        rest_of = λ z h. to.rest_of z (out_only y rest rest' out z h).1;
        none = λ z m gone l. go z m gone l (ℕ_discrete z y);
      }
        where
          go : (z : ℕ) → InWord members z → (InWord rest' z → ⊥) → Lacking members words ties x z → Dec (z ≡ y) → ⊥
          go z m gone l (yes e) =
              not_both (without_has (get_or words y 0) (get_or ties y 0) more lack x (rw e at l.1) (rw e at l.2)) fails
          go z m gone l (no d) = to.none z m (λ r. gone (out_stays y rest rest' out z d r)) l

      pub none_found : bit more x ≡ true → LowestSecond members words ties x y
      none_found holds =
          let (w, n) = without_only (get_or words y 0) (get_or ties y 0) more lack x holds in
          record {
            lacks = (to.rest_of y low.there, w, n);
            lower = λ z b l. to.none z l.0 (λ r. not_both r (low.none_below z b)) l;
          }

    pub none_ends : {rest : ℕ} → NoneTo rest → rest ≡ 0 → ((y : ℕ) × Lacking members words ties x y) → ⊥
    none_ends to e (y, l) = to.none y l.0 (λ r. not_both r (rw e (bit_zero y))) l

  -- ---- the lowest two

  module _ {all : ℕ} (any : ℕ) (lacks : LacksAny members words ties all) (common : (j : ℕ) → bit any j ≡ (bit all j && bit members j)) (low : Low members) where
    -- where x is wanted before y and not tied, it is among those that lack
    lacked : (x y : ℕ) → Wanted members words x y → (bit any x ≡ false → Tied ties x y)
    lacked x y w none = go (bit (get_or ties y 0) x) refl
      where
        go : (b : Bool) → bit (get_or ties y 0) x ≡ b → Tied ties x y
        go true e = (low y w.1, e)
        go false e = absurd (not_both (common x ∙ rw (lacks.there x y (w.1, w.2, λ g. not_both g e), w.0)) none)

    pub nothing_lacks : any ≡ 0 → LacksOf (Wanted members words) (Tied ties) None
    nothing_lacks e = nothing (λ x y w. lacked x y w (rw e (bit_zero x)))

    pub some_lacks : (x : ℕ) → InWord any x → (y : ℕ) × Lacking members words ties x y
    some_lacks x h = lacks.only x (common_both all members any common x h).0

    pub two_lack : {x y : ℕ} → LowestBit 64 any x → LowestSecond members words ties x y → LacksOf (Wanted members words) (Tied ties) (Some (x, y))
    two_lack {x} {y} least second =
        let (m, w, n) = second.lacks in
        two ((common_both all members any common x least.there).1, m, w) (λ t. n t.1) lower
      where
        lower : (k l : ℕ) → LowerTwo k l x y → Wanted members words k l → Tied ties k l
        lower k l (inl b) w = lacked k l w (least.none_below k b)
        lower k l (inr (e, b)) w = go (bit (get_or ties l 0) k) refl
          where
            go : (v : Bool) → bit (get_or ties l 0) k ≡ v → Tied ties k l
            go true f = (low l w.1, f)
            go false f = absurd (second.lower l b (rw (← e) (w.1, w.2, λ g. not_both g f)))
