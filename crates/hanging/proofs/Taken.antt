-- What is so between the steps of taking, and that a step keeps it: the ready ones are those with nothing left before them, and every other that is left hangs.
-- Assumes nothing.
use mathlib.Core.Path.{◌≡◌, sym, ◌∙◌}
use mathlib.Core.Logic.{inl, inr, ◌≢◌}
use mathlib.Core.Bool.{false≢true, not, ◌&&◌}
use mathlib.Core.List.{List, [], ◌∷◌, ◌++◌}
use Prim.Native.Nat.{ℕ, ◌≤◌, ◌<◌}
use native.Mathlib.Decide.{ℕ_discrete, dec_lt}
use native.Mathlib.Omega.{arith}
use lib.Dec.{eqb}
use lib.ListN.{get_or, replicate}
use Rattle.bits.specs.Bits.{bit, LowestBit}
use Rattle.bits.proofs.Words.{bit_zero}
use Rattle.bits.proofs.Changed.{out_stays, out_only}
use Rattle.bits.proofs.Members.{zero_words}
use Rattle.orders.specs.Orders.{None, Greedy}
use Rattle.hanging.specs.Hanging.{InWord, DirectlyBefore, Free, Settled, Hangs}
use Rattle.hanging.proofs.Left.{Left, left_begins, left_on, ends_none_free}

pub record Going (members : ℕ) (before : List ℕ) (left ready : ℕ) (hung list : List ℕ) : Type 0 where
  pub so : Left members before left list
  pub ready_left : (y : ℕ) → InWord ready y → InWord left y
  pub ready_free : (y : ℕ) → InWord ready y → Free before left y
  pub hung_left : (x y : ℕ) → InWord left x → InWord (get_or hung x 0) y → InWord left y × DirectlyBefore before x y
  pub settled : (y : ℕ) → InWord left y → Settled before left ready hung y

none_in_zero : (y : ℕ) → InWord 0 y → ⊥
none_in_zero y h = false≢true (sym (bit_zero y) ∙ h)

pub going_begins :
    (members : ℕ) (before : List ℕ) {ready : ℕ} {hung : List ℕ} → Hangs (InWord members) before members 0 (replicate 64 0) ready hung
    → Going members before members ready hung []
going_begins members before {ready} {hung = hung} hangs = record {
  so = left_begins members before;
  ready_left = λ y h. (from_ready y h).0;
  ready_free = λ y h. (from_ready y h).1;
  hung_left = λ x y l h. elim (hangs.hung_only x y h) [ inl e ↦ absurd (none_in_zero y (rw (zero_words 64 x) at e)) | inr f ↦ f ];
  settled = hangs.settled;
}
  where
    from_ready : (y : ℕ) → InWord ready y → InWord members y × Free before members y
    from_ready y h = elim (hangs.ready_only y h) [ inl e ↦ absurd (none_in_zero y e) | inr f ↦ f ]

module _ {members : ℕ} {before : List ℕ} {left ready : ℕ} {hung list : List ℕ} (going : Going members before left ready hung list) where
  free_is_ready : (y : ℕ) → InWord left y → Free before left y → InWord ready y
  free_is_ready y l free = go (going.settled y l)
    where
      go : Settled before left ready hung y → InWord ready y
      go (inl h) = h
      go (inr (x, (is-left, (comes, _)))) = absurd (free x comes is-left)

  pub ends_none_ready : ready ≡ 0 → Greedy (InWord members) (DirectlyBefore before) (λ x. x) None list
  ends_none_ready e = ends_none_free going.so (λ y l f. none_in_zero y (rw e at (free_is_ready y l f)))

  -- ---- one more: the least that is ready

  module _ {y : ℕ} (low : LowestBit 64 ready y) {left' ready' ready'' : ℕ} {hung'' : List ℕ}
      (left_out : (j : ℕ) → bit left' j ≡ (not (eqb y j) && bit left j)) (ready-out : (j : ℕ) → bit ready' j ≡ (not (eqb y j) && bit ready j))
      (hangs : Hangs (InWord (get_or hung y 0)) before left' ready' hung ready'' hung'') where
    least_free : (z : ℕ) → InWord left z → Free before left z → y ≤ z
    least_free z l f = go (dec_lt z y)
      where
        go : Dec (z < y) → y ≤ z
        go (yes h) = absurd (false≢true (sym (low.none_below z h) ∙ free_is_ready z l f))
        go (no n) = omega arith

    own_free : Free before left y
    own_free = going.ready_free y low.there

    own_left : InWord left y
    own_left = going.ready_left y low.there

    still_left : (z : ℕ) → InWord left' z → (z ≢ y) × InWord left z
    still_left = out_only y left left' left_out

    -- what hung on the one that is taken is left
    hung_here : (z : ℕ) → InWord (get_or hung y 0) z → InWord left' z
    hung_here z h =
        let (is-left, comes) = going.hung_left y z own_left h in
        out_stays y left left' left_out z (λ e. own_free y (rw e at comes) own_left) is-left

    free_stays : (z : ℕ) → Free before left z → Free before left' z
    free_stays z f x b l = f x b (still_left x l).1

    from_ready : (z : ℕ) → InWord ready'' z → InWord left' z × Free before left' z
    from_ready z h =
        elim (hangs.ready_only z h) [
          | inl e ↦
              let (apart, was) = out_only y ready ready' ready-out z e in
              (out_stays y left left' left_out z apart (going.ready_left z was), free_stays z (going.ready_free z was))
          | inr f ↦ (hung_here z f.0, f.1)
        ]

    from_hung : (x z : ℕ) → InWord left' x → InWord (get_or hung'' x 0) z → InWord left' z × DirectlyBefore before x z
    from_hung x z l h =
        elim (hangs.hung_only x z h) [
          | inl e ↦
              let (is-left, comes) = going.hung_left x z (still_left x l).1 e in
              (out_stays y left left' left_out z (λ f. own_free x (rw f at comes) (still_left x l).1) is-left, comes)
          | inr f ↦ (hung_here z f.0, f.1)
        ]

    all_settled : (z : ℕ) → InWord left' z → Settled before left' ready'' hung'' z
    all_settled z l = go (going.settled z (still_left z l).1)
      where
        on : (x : ℕ) → InWord left x → DirectlyBefore before x z → InWord (get_or hung x 0) z → Dec (x ≡ y) → Settled before left' ready'' hung'' z
        on x is-left comes h (yes e) = hangs.settled z (rw e at h)
        on x is-left comes h (no d) = inr (x, (out_stays y left left' left_out x d is-left, (comes, hangs.hung_stays x z h)))

        go : Settled before left ready hung z → Settled before left' ready'' hung'' z
        go (inl h) = inl (hangs.ready_stays z (out_stays y ready ready' ready-out z (still_left z l).0 h))
        go (inr (x, (is-left, (comes, h)))) = on x is-left comes h (ℕ_discrete x y)

    pub going_on : Going members before left' ready'' hung'' (list ++ (y ∷ []))
    going_on = record {
      so = left_on going.so own_left own_free least_free left_out;
      ready_left = λ z h. (from_ready z h).0;
      ready_free = λ z h. (from_ready z h).1;
      hung_left = from_hung;
      settled = all_settled;
    }
