-- Sets in words: the least of one outside another, one set joined to another, and how many numbers a set leaves out.
-- Assumes nothing.
use mathlib.Core.Path.{◌≡◌, refl, sym, ap, ◌∙◌}
use mathlib.Core.Logic.{◌⊎◌, inl, inr}
use mathlib.Core.Bool.{Bool, true, false, not, ◌&&◌, ◌||◌}
use mathlib.Core.List.{List}
use Prim.Native.Nat.{ℕ, zero, suc, ◌+◌, ◌*◌, ◌/◌, ◌%◌, ◌≤◌, ◌<◌}
use native.Mathlib.Decide.{ℕ_discrete, dec_lt}
use native.Mathlib.Omega.{arith}
use lib.ListN.{length, get_or, set, length-set, get_or-eq_default}
use lib.Seq.{get_or-set_same, get_or-set_other}
use Rattle.bits.specs.Bits.{bit, within, LowestBit}
use Rattle.bits.proofs.Words.{bit_zero}
use Rattle.bits.proofs.Members.{within_word, not_both, none_beyond}
use Rattle.bits.proofs.Counted.{counted}
use Rattle.linking.specs.Passing.{LeastOutside, Joined}

-- ---- tests

pub told : (b : Bool) → (b ≡ true) ⊎ (b ≡ false)
told true = inl refl
told false = inr refl

-- a number in a set of four words is below 256
pub member_low : (s : List ℕ) → length s ≡ 4 → (y : ℕ) → within s y ≡ true → y < 256
member_low s e y h = go (dec_lt y 256)
  where
    go : Dec (y < 256) → y < 256
    go (yes l) = l
    go (no n) = absurd (not_both h (none_beyond s y (omega arith)))

-- all four words are passed
pub all_passed : (q : ℕ) → q ≤ 4 → 4 ≤ q → q ≡ 4
all_passed q h g = omega arith

-- ---- the least outside

-- what the first words of the set have, the other set has
abbrev pub CoveredTo : List ℕ → List ℕ → ℕ → Type 0
CoveredTo s t n = (i : ℕ) → i < n → within s i ≡ true → within t i ≡ true

outside_parts : (a b : Bool) → (not b && a) ≡ true → (a ≡ true) × (b ≡ false)
outside_parts true false e = (refl, refl)
outside_parts true true e = absurd (not_both e refl)
outside_parts false false e = absurd (not_both e refl)
outside_parts false true e = absurd (not_both e refl)

inside_part : (a b : Bool) → (not b && a) ≡ false → a ≡ true → b ≡ true
inside_part a true e h = refl
inside_part a false e h = absurd (not_both h e)

module _ (s t : List ℕ) (q word : ℕ) (rest : (j : ℕ) → bit word j ≡ (not (bit (get_or t q 0) j) && bit (get_or s q 0) j)) where
  covered_to : (m : ℕ) → m ≤ 64 → CoveredTo s t (64 * q) → ((k : ℕ) → k < m → bit word k ≡ false) → CoveredTo s t (64 * q + m)
  covered_to m h below none i l there = go (dec_lt i (64 * q))
    where
      go : Dec (i < 64 * q) → within t i ≡ true
      go (yes g) = below i g there
      go (no n) =
          within_word t q (i % 64) i (omega arith) (omega arith)
          ∙ inside_part (bit (get_or s q 0) (i % 64)) _ (sym (rest (i % 64)) ∙ none (i % 64) (omega arith))
          (sym (within_word s q (i % 64) i (omega arith) (omega arith)) ∙ there)

  pub covered_word : CoveredTo s t (64 * q) → word ≡ 0 → CoveredTo s t (64 * (q + 1))
  covered_word below e i h = covered_to 64 (omega arith) below (λ k j. rw e (bit_zero k)) i (omega arith)

  pub outside_word : q < 4 → CoveredTo s t (64 * q) → (k : ℕ) → LowestBit 64 word k → LeastOutside s t (64 * q + k)
  outside_word h below k low =
      let (is-in, is-out) = outside_parts (bit (get_or s q 0) k) (bit (get_or t q 0) k) (sym (rest k) ∙ low.there) in
      record {
        most = omega (arith, low.room);
        there = λ _. within_word s q k (64 * q + k) (omega arith) low.room ∙ is-in;
        outside = λ _. within_word t q k (64 * q + k) (omega arith) low.room ∙ is-out;
        none_below = covered_to k (omega (arith, low.room)) below low.none_below;
      }

pub none_outside : (s t : List ℕ) → CoveredTo s t 256 → LeastOutside s t 256
none_outside s t f = record { most = omega arith; there = λ h. absurd (omega arith); outside = λ h. absurd (omega arith); none_below = f }

-- none is outside: the other set has all
pub all_inside : {s t : List ℕ} {r : ℕ} → LeastOutside s t r → r ≡ 256 → (y : ℕ) → y < 256 → within s y ≡ true → within t y ≡ true
all_inside l e y low h = l.none_below y (omega arith) h

-- ---- one set joined to another

-- the first q words are joined, and the others are as they were
pub record JoinedTo (q : ℕ) (other before after : List ℕ) : Type 0 where
  pub long : length after ≡ 4
  pub passed : (p k : ℕ) → p < q → bit (get_or after p 0) k ≡ (bit (get_or other p 0) k || bit (get_or before p 0) k)
  pub left : (p : ℕ) → q ≤ p → get_or after p 0 ≡ get_or before p 0

pub joined_begins : (other before : List ℕ) → length before ≡ 4 → JoinedTo 0 other before before
joined_begins other before e = record { long = e; passed = λ p k h. absurd (omega arith); left = λ p h. refl }

pub joined_on :
    {q : ℕ} {other before after : List ℕ} → JoinedTo q other before after → q < 4
    → (word : ℕ) → ((k : ℕ) → bit word k ≡ (bit (get_or other q 0) k || bit (get_or after q 0) k)) → JoinedTo (q + 1) other before (set after q word)
joined_on {q} {other} {before} {after} to h word w = record {
  long = length-set after q word ∙ to.long;
  passed = λ p k l. go p k l (ℕ_discrete p q);
  left = λ p l. get_or-set_other after q p word 0 (λ e. omega arith) ∙ to.left p (omega arith);
}
  where
    go : (p k : ℕ) → p < q + 1 → Dec (p ≡ q) → bit (get_or (set after q word) p 0) k ≡ (bit (get_or other p 0) k || bit (get_or before p 0) k)
    go p k l (yes e) = rw (e, get_or-set_same after q word 0 (omega (arith, to.long)), ← to.left q (omega arith)) (w k)
    go p k l (no d) = rw (get_or-set_other after q p word 0 d) (to.passed p k (omega arith))

pub joined_all : {other before after : List ℕ} → length other ≡ 4 → length before ≡ 4 → JoinedTo 4 other before after → Joined other before after
unfolding within
joined_all {other} {before} {after} o b to = record { long = to.long; members = λ z. go z (dec_lt (z / 64) 4) }
  where
    go :
        (z : ℕ) → Dec (z / 64 < 4)
        → bit (get_or after (z / 64) 0) (z % 64) ≡ (bit (get_or other (z / 64) 0) (z % 64) || bit (get_or before (z / 64) 0) (z % 64))
    go z (yes h) = to.passed (z / 64) (z % 64) h
    go z (no n) =
        rw (
          get_or-eq_default after 0 {n = z / 64} (omega (arith, to.long)),
          get_or-eq_default other 0 {n = z / 64} (omega arith),
          get_or-eq_default before 0 {n = z / 64} (omega arith),
          bit_zero (z % 64),
        )

-- ---- how many numbers below 256 a set leaves out

unfoldable pub missing : List ℕ → ℕ
missing s = counted (λ j. not (within s j)) 256

counted_no_more : (f g : ℕ → Bool) → ((j : ℕ) → g j ≡ true → f j ≡ true) → (n : ℕ) → counted g n ≤ counted f n
unfolding counted
counted_no_more f g sub zero = omega arith
counted_no_more f g sub (suc n) = go (f n) (g n) refl refl (counted_no_more f g sub n)
  where
    go : (a b : Bool) → f n ≡ a → g n ≡ b → counted g n ≤ counted f n → counted g (suc n) ≤ counted f (suc n)
    go true true e d h = rw (e, d) (omega arith)
    go true false e d h = rw (e, d) (omega arith)
    go false true e d h = absurd (not_both (sub n d) e)
    go false false e d h = rw (e, d) (omega arith)

counted_fewer :
    (f g : ℕ → Bool) → ((j : ℕ) → g j ≡ true → f j ≡ true) → (k : ℕ) → f k ≡ true → g k ≡ false → (n : ℕ) → k < n → counted g n < counted f n
unfolding counted
counted_fewer f g sub k here gone zero h = absurd (omega arith)
counted_fewer f g sub k here gone (suc n) h = go (ℕ_discrete k n) (λ l. counted_fewer f g sub k here gone n l)
  where
    go : Dec (k ≡ n) → (k < n → counted g n < counted f n) → counted g (suc n) < counted f (suc n)
    go (yes e) rest = rw (sym (ap f e) ∙ here, sym (ap g e) ∙ gone) (omega (arith, counted_no_more f g sub n))
    go (no d) rest = other (f n) (g n) refl refl (rest (omega arith))
      where
        other : (a b : Bool) → f n ≡ a → g n ≡ b → counted g n < counted f n → counted g (suc n) < counted f (suc n)
        other true true e c h = rw (e, c) (omega arith)
        other true false e c h = rw (e, c) (omega arith)
        other false true e c h = absurd (not_both (sub n c) e)
        other false false e c h = rw (e, c) (omega arith)

-- a set that grew leaves fewer out
pub missing_fewer :
    (s t : List ℕ) → ((y : ℕ) → within s y ≡ true → within t y ≡ true) → (k : ℕ) → k < 256 → within s k ≡ false → within t k ≡ true
    → missing t < missing s
unfolding missing
missing_fewer s t grows k low out now =
    counted_fewer _ _ (λ j h. flip (within s j) (within t j) (grows j) h) k (rw out) (rw now) 256 low
  where
    flip : (a b : Bool) → (a ≡ true → b ≡ true) → not b ≡ true → not a ≡ true
    flip false b f h = refl
    flip true b f h = absurd (not_both h (rw (f refl)))
