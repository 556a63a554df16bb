-- Sets in words: one bit changed in one word, a number put in or taken out, the least member, sets with none, and sets with the same members.
-- Assumes nothing.
use mathlib.Core.Path.{◌≡◌, refl, sym, ap, subst, ◌∙◌}
use mathlib.Core.Logic.{◌⊎◌, inl, inr, ◌≢◌}
use mathlib.Core.Bool.{Bool, true, false, or-true, true≢false}
use mathlib.Core.List.{List}
use Prim.Native.Nat.{ℕ, zero, suc, ◌+◌, ◌*◌, ◌/◌, ◌%◌, ◌^◌, ◌≤◌, ◌<◌}
use native.Mathlib.Decide.{ℕ_discrete, dec_lt}
use native.Mathlib.Omega.{arith}
use lib.Dec.{eqb}
use lib.ListN.{length, get_or, set, replicate, get_or-eq_default}
use lib.Seq.{get_or-set_same, get_or-set_other, ext_get_or}
use borrow.Author.Tests.{eq-eqb, ne_eqb}
use Rattle.bits.specs.Bits.{bit, within, LowestBit, Added, Removed, LeastMember}
use Rattle.bits.proofs.Words.{bit_zero, same_bits}

-- number 64 q + k is bit k of word q
pub within_word : (s : List ℕ) (q k i : ℕ) → i ≡ q * 64 + k → k < 64 → within s i ≡ bit (get_or s q 0) k
unfolding within
within_word s q k i e h =
    let word : i / 64 ≡ q = omega arith in
    let place : i % 64 ≡ k = omega arith in
    rw (word, place)

-- ---- one bit changed in one word

-- numbers of one word are the same where their bits are
same_place : (i j : ℕ) → i / 64 ≡ j / 64 → eqb (i % 64) (j % 64) ≡ eqb i j
same_place i j e = go (ℕ_discrete i j)
  where
    go : Dec (i ≡ j) → eqb (i % 64) (j % 64) ≡ eqb i j
    go (yes f) = eq-eqb (i % 64) (j % 64) (omega arith) ∙ sym (eq-eqb i j f)
    go (no n) = ne_eqb (i % 64) (j % 64) (λ f. n (omega arith)) ∙ sym (ne_eqb i j n)

-- a word changed at one bit changes the set at one number
pub changed_member :
    (g : Bool → Bool → Bool) → ((b : Bool) → g false b ≡ b) → (s : List ℕ) (i word : ℕ) → i / 64 < length s
    → ((k : ℕ) → bit word k ≡ g (eqb (i % 64) k) (bit (get_or s (i / 64) 0) k))
    → (j : ℕ) → within (set s (i / 64) word) j ≡ g (eqb i j) (within s j)
unfolding within
changed_member g keeps s i word h w j = go (ℕ_discrete (j / 64) (i / 64))
  where
    go : Dec (j / 64 ≡ i / 64) → bit (get_or (set s (i / 64) word) (j / 64) 0) (j % 64) ≡ g (eqb i j) (bit (get_or s (j / 64) 0) (j % 64))
    go (yes e) = rw (e, get_or-set_same s (i / 64) word 0 h, w (j % 64), same_place i j (sym e))
    go (no n) = rw (get_or-set_other s (i / 64) (j / 64) word 0 n, ne_eqb i j (λ e. n (ap (λ (m : ℕ). m / 64) (sym e))), keeps)

-- ---- a number put in, or taken out

-- no test is both
pub not_both : {b : Bool} → b ≡ true → b ≡ false → ⊥
not_both e f = true≢false (sym e ∙ f)

module _ {i : ℕ} {before after : List ℕ} (added : Added i before after) where
  pub added_there : within after i ≡ true
  added_there = added.members i ∙ rw (eq-eqb i i refl)

  pub added_keeps : (j : ℕ) → within before j ≡ true → within after j ≡ true
  added_keeps j h = added.members j ∙ rw (h, or-true)

  pub added_only : (j : ℕ) → within after j ≡ true → (within before j ≡ true) ⊎ (i ≡ j)
  added_only j h = go (ℕ_discrete i j)
    where
      go : Dec (i ≡ j) → (within before j ≡ true) ⊎ (i ≡ j)
      go (yes e) = inr e
      go (no o) = inl (rw (ne_eqb i j o) at (sym (added.members j) ∙ h))

module _ {i : ℕ} {before after : List ℕ} (removed : Removed i before after) where
  pub removed_gone : within after i ≡ false
  removed_gone = removed.members i ∙ rw (eq-eqb i i refl)

  pub removed_keeps : (j : ℕ) → i ≢ j → within before j ≡ true → within after j ≡ true
  removed_keeps j o h = removed.members j ∙ rw (ne_eqb i j o) h

  pub removed_only : (j : ℕ) → within after j ≡ true → within before j ≡ true
  removed_only j h = go (ℕ_discrete i j)
    where
      go : Dec (i ≡ j) → within before j ≡ true
      go (yes e) = absurd (not_both h (subst (λ (x : ℕ). within after x ≡ false) e removed_gone))
      go (no o) = rw (ne_eqb i j o) at (sym (removed.members j) ∙ h)

-- ---- the least member

-- none in the words before q, and of word q none below bit m
none_to :
    (s : List ℕ) (q m : ℕ) → m ≤ 64 → ((i : ℕ) → i < 64 * q → within s i ≡ false)
    → ((k : ℕ) → k < m → bit (get_or s q 0) k ≡ false) → (i : ℕ) → i < 64 * q + m → within s i ≡ false
none_to s q m h below word i j = go (dec_lt i (64 * q))
  where
    go : Dec (i < 64 * q) → within s i ≡ false
    go (yes l) = below i l
    go (no n) = within_word s q (i % 64) i (omega arith) (omega arith) ∙ word (i % 64) (omega arith)

pub none_in_word :
    (s : List ℕ) (q : ℕ) → ((i : ℕ) → i < 64 * q → within s i ≡ false) → get_or s q 0 ≡ 0
    → (i : ℕ) → i < 64 * (q + 1) → within s i ≡ false
none_in_word s q below e i h = none_to s q 64 (omega arith) below (λ k j. rw e (bit_zero k)) i (omega arith)

pub least_in_word :
    (s : List ℕ) (q k : ℕ) → q < 4 → ((i : ℕ) → i < 64 * q → within s i ≡ false) → LowestBit 64 (get_or s q 0) k
    → LeastMember s (64 * q + k)
least_in_word s q k h below l =
    record {
      most = omega (arith, l.room);
      there = λ _. within_word s q k (64 * q + k) (omega arith) l.room ∙ l.there;
      none_below = none_to s q k (omega (arith, l.room)) below l.none_below;
    }

-- ---- sets with no member, and sets with the same members

-- no number past the last word is in the set
pub none_beyond : (s : List ℕ) (i : ℕ) → 64 * length s ≤ i → within s i ≡ false
unfolding within
none_beyond s i h = rw (get_or-eq_default s 0 {n = i / 64} (omega arith)) (bit_zero (i % 64))

pub zero_words : (n q : ℕ) → get_or {A = ℕ} (replicate n 0) q 0 ≡ 0
zero_words zero q = refl
zero_words (suc n) zero = refl
zero_words (suc n) (suc q) = zero_words n q

-- a set made anew
pub fresh_empty : (n i : ℕ) → within (replicate n 0) i ≡ false
unfolding within
fresh_empty n i = rw (zero_words n (i / 64)) (bit_zero (i % 64))

-- words of 64 bits that have the same members are the same
pub same_members :
    (s t : List ℕ) → length s ≡ length t → ((q : ℕ) → get_or s q 0 < 2 ^ 64) → ((q : ℕ) → get_or t q 0 < 2 ^ 64)
    → ((i : ℕ) → within s i ≡ within t i) → s ≡ t
same_members s t e h g m =
    ext_get_or 0 s t e (λ q j. same_bits 64 (get_or s q 0) (get_or t q 0) (h q) (g q)
    (λ k l. sym (within_word s q k (q * 64 + k) refl l) ∙ m (q * 64 + k) ∙ within_word t q k (q * 64 + k) refl l))
