-- One number settled, and one after another: what hangs stays hanging and what is ready stays ready.
-- Assumes nothing.
use mathlib.Core.Path.{◌≡◌}
use mathlib.Core.Logic.{◌⊎◌, inl, inr}
use mathlib.Core.Bool.{true, not, ◌&&◌, ◌||◌}
use mathlib.Core.List.{List}
use Prim.Native.Nat.{ℕ, ◌<◌}
use native.Mathlib.Decide.{ℕ_discrete}
use lib.Dec.{eqb}
use lib.ListN.{length, get_or, set}
use lib.Seq.{get_or-set_same, get_or-set_other}
use Rattle.bits.specs.Bits.{bit}
use Rattle.bits.proofs.Changed.{put_here, put_stays, put_only, out_stays, out_only, common_both, common_none}
use Rattle.hanging.specs.Hanging.{InWord, DirectlyBefore, Free, Settled, Hangs, Only}

-- ---- one

module _ (y : ℕ) (before : List ℕ) (left ready missing : ℕ) (hung : List ℕ)
    (common : (j : ℕ) → bit missing j ≡ (bit (get_or before y 0) j && bit left j)) where
  -- nothing is missing: it is ready
  pub hangs_free : missing ≡ 0 → (ready' : ℕ) → ((j : ℕ) → bit ready' j ≡ (eqb y j || bit ready j)) → Hangs (Only y) before left ready hung ready' hung
  hangs_free none ready' put = record {
    ready_stays = put_stays y ready ready' put;
    ready_only = λ z h. elim (put_only y ready ready' put z h) [ inl e ↦ inr (e, free z e) | inr g ↦ inl g ];
    hung_stays = λ x z h. h;
    hung_only = λ x z h. inl h;
    settled = λ z e. inl (rw e (put_here y ready ready' put));
  }
    where
      free : (z : ℕ) → z ≡ y → Free before left z
      free z e x = rw e (common_none (get_or before y 0) left missing common none x)

  -- x is missing: it hangs on x
  module _ (x word : ℕ) (lacks : bit missing x ≡ true) (low : x < length hung)
      (put : (j : ℕ) → bit word j ≡ (eqb y j || bit (get_or hung x 0) j)) where
    at_x : get_or (set hung x word) x 0 ≡ word
    at_x = get_or-set_same hung x word 0 low

    stays : (z w : ℕ) → InWord (get_or hung z 0) w → InWord (get_or (set hung x word) z 0) w
    stays z w h = go (ℕ_discrete z x)
      where
        go : Dec (z ≡ x) → InWord (get_or (set hung x word) z 0) w
        go (yes e) = rw (e, at_x) (put_stays y (get_or hung x 0) word put w (rw e at h))
        go (no d) = rw (get_or-set_other hung x z word 0 d) h

    only : (z w : ℕ) → InWord (get_or (set hung x word) z 0) w → InWord (get_or hung z 0) w ⊎ (Only y w × DirectlyBefore before z w)
    only z w h = go (ℕ_discrete z x)
      where
        go : Dec (z ≡ x) → InWord (get_or hung z 0) w ⊎ (Only y w × DirectlyBefore before z w)
        go (yes e) =
            elim (put_only y (get_or hung x 0) word put w (rw (e, at_x) at h)) [
              | inl f ↦ inr (f, rw (e, f) (common_both (get_or before y 0) left missing common x lacks).0)
              | inr g ↦ inl (rw e g)
            ]
        go (no d) = inl (rw (get_or-set_other hung x z word 0 d) at h)

    pub hangs_on : Hangs (Only y) before left ready hung ready (set hung x word)
    hangs_on = record {
      ready_stays = λ z h. h;
      ready_only = λ z h. inl h;
      hung_stays = stays;
      hung_only = only;
      settled = λ z e.
          let (comes, is-left) = common_both (get_or before y 0) left missing common x lacks in
          inr (x, (is-left, (rw e comes, rw (e, at_x) (put_here y (get_or hung x 0) word put))));
    }

-- ---- one after another

pub hangs_none : {some : ℕ → Type 0} {before : List ℕ} {left ready : ℕ} {hung : List ℕ} → ((y : ℕ) → some y → ⊥) → Hangs some before left ready hung ready hung
hangs_none none = record {
  ready_stays = λ y h. h;
  ready_only = λ y h. inl h;
  hung_stays = λ x y h. h;
  hung_only = λ x y h. inl h;
  settled = λ y h. absurd (none y h);
}

pub settled_stays :
    {some : ℕ → Type 0} {before : List ℕ} {left ready ready' : ℕ} {hung hung' : List ℕ} → Hangs some before left ready hung ready' hung'
    → (y : ℕ) → Settled before left ready hung y → Settled before left ready' hung' y
settled_stays hangs y (inl h) = inl (hangs.ready_stays y h)
settled_stays hangs y (inr (x, (l, (b, h)))) = inr (x, (l, (b, hangs.hung_stays x y h)))

module _ {one two both : ℕ → Type 0} {before : List ℕ} {left ready ready' ready'' : ℕ} {hung hung' hung'' : List ℕ}
    (h : Hangs one before left ready hung ready' hung') (g : Hangs two before left ready' hung' ready'' hung'')
    (first : (y : ℕ) → one y → both y) (second : (y : ℕ) → two y → both y) (parted : (y : ℕ) → both y → one y ⊎ two y) where
  pub hangs_joined : Hangs both before left ready hung ready'' hung''
  hangs_joined = record {
    ready_stays = λ y e. g.ready_stays y (h.ready_stays y e);
    ready_only = λ y e. from_ready y (g.ready_only y e);
    hung_stays = λ x y e. g.hung_stays x y (h.hung_stays x y e);
    hung_only = λ x y e. from_hung x y (g.hung_only x y e);
    settled = λ y e. either y (parted y e);
  }
    where
      from_ready : (y : ℕ) → InWord ready' y ⊎ (two y × Free before left y) → InWord ready y ⊎ (both y × Free before left y)
      from_ready y (inl e) = elim (h.ready_only y e) [ inl f ↦ inl f | inr f ↦ inr (first y f.0, f.1) ]
      from_ready y (inr f) = inr (second y f.0, f.1)

      from_hung :
          (x y : ℕ) → InWord (get_or hung' x 0) y ⊎ (two y × DirectlyBefore before x y)
          → InWord (get_or hung x 0) y ⊎ (both y × DirectlyBefore before x y)
      from_hung x y (inl e) = elim (h.hung_only x y e) [ inl f ↦ inl f | inr f ↦ inr (first y f.0, f.1) ]
      from_hung x y (inr f) = inr (second y f.0, f.1)

      either : (y : ℕ) → one y ⊎ two y → Settled before left ready'' hung'' y
      either y (inl e) = settled_stays g y (h.settled y e)
      either y (inr e) = g.settled y e

-- ---- the bits of a word, one after another

-- those of the word that are not in the rest
abbrev pub Passed : ℕ → ℕ → ℕ → Type 0
Passed some rest y = InWord some y × (InWord rest y → ⊥)

-- where the rest has bits of the word alone, all others of it are settled
pub record SettledTo (some rest : ℕ) (before : List ℕ) (left ready : ℕ) (hung : List ℕ) (ready' : ℕ) (hung' : List ℕ) : Type 0 where
  pub rest_of : (y : ℕ) → InWord rest y → InWord some y
  pub hangs : Hangs (Passed some rest) before left ready hung ready' hung'

module _ {some rest : ℕ} {before : List ℕ} {left ready : ℕ} {hung : List ℕ} {ready' : ℕ} {hung' : List ℕ}
    (to : SettledTo some rest before left ready hung ready' hung') where
  pub settled_on :
      (y : ℕ) → InWord rest y → (rest' : ℕ) → ((j : ℕ) → bit rest' j ≡ (not (eqb y j) && bit rest j)) → {ready'' : ℕ} {hung'' : List ℕ}
      → Hangs (Only y) before left ready' hung' ready'' hung'' → SettledTo some rest' before left ready hung ready'' hung''
  settled_on y there rest' out next = record {
    rest_of = λ z h. to.rest_of z (out_only y rest rest' out z h).1;
    hangs =
        hangs_joined to.hangs next
        (λ z p. (p.0, λ h. p.1 (out_only y rest rest' out z h).1))
        (λ z e. (rw e (to.rest_of y there), λ h. (out_only y rest rest' out z h).0 e))
        parted;
  }
    where
      parted : (z : ℕ) → Passed some rest' z → Passed some rest z ⊎ Only y z
      parted z p = go (ℕ_discrete z y)
        where
          go : Dec (z ≡ y) → Passed some rest z ⊎ Only y z
          go (yes e) = inr e
          go (no d) = inl (p.0, λ h. p.1 (out_stays y rest rest' out z d h))

  -- .. until the rest is empty
  pub settled_all : ((y : ℕ) → InWord rest y → ⊥) → Hangs (InWord some) before left ready hung ready' hung'
  settled_all none = record {
    ready_stays = to.hangs.ready_stays;
    ready_only = λ y h. elim (to.hangs.ready_only y h) [ inl e ↦ inl e | inr f ↦ inr (f.0.0, f.1) ];
    hung_stays = to.hangs.hung_stays;
    hung_only = λ x y h. elim (to.hangs.hung_only x y h) [ inl e ↦ inl e | inr f ↦ inr (f.0.0, f.1) ];
    settled = λ y h. to.hangs.settled y (h, none y);
  }

pub settled_begins : (some : ℕ) (before : List ℕ) (left ready : ℕ) (hung : List ℕ) → SettledTo some some before left ready hung ready hung
settled_begins some before left ready hung = record { rest_of = λ y h. h; hangs = hangs_none (λ y p. p.1 p.0) }
