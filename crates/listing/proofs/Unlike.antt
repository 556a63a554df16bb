-- What is in just one of two sets, put into a third word by word.
-- Assumes nothing.
use mathlib.Core.Path.{◌≡◌, refl, ap, ◌∙◌}
use mathlib.Core.Bool.{not, ◌&&◌, ◌||◌}
use mathlib.Core.List.{List}
use Prim.Native.Nat.{ℕ, ◌+◌, ◌/◌, ◌%◌, ◌≤◌, ◌<◌}
use native.Mathlib.Omega.{arith}
use lib.ListN.{length, get_or, set, length-set}
use lib.Seq.{get_or-set_same, get_or-set_other}
use borrow.Author.Count.{below_more}
use Rattle.bits.specs.Bits.{bit, within}
use Rattle.listing.specs.Listing.{unlike, Differing}

-- the first q words are passed
pub record DifferSoFar (one other before words : List ℕ) (q : ℕ) : Type 0 where
  pub long : length words ≡ 4
  pub few : q ≤ 4
  pub passed :
      (j : ℕ) → j < q → (k : ℕ) → bit (get_or words j 0) k ≡ (unlike (bit (get_or one j 0) k) (bit (get_or other j 0) k) || bit (get_or before j 0) k)
  pub left : (j : ℕ) → q ≤ j → get_or words j 0 ≡ get_or before j 0

pub none_passed : {one other before : List ℕ} → length before ≡ 4 → DifferSoFar one other before before 0
none_passed long = record { long = long; few = omega arith; passed = λ j h. absurd (omega arith); left = λ j h. refl }

pub one_passed :
    {one other before words : List ℕ} {q : ℕ} (x y u z : ℕ) → DifferSoFar one other before words q → q < 4
    → ((k : ℕ) → bit x k ≡ (not (bit (get_or other q 0) k) && bit (get_or one q 0) k))
    → ((k : ℕ) → bit y k ≡ (not (bit (get_or one q 0) k) && bit (get_or other q 0) k))
    → ((k : ℕ) → bit u k ≡ (bit y k || bit x k))
    → ((k : ℕ) → bit z k ≡ (bit u k || bit (get_or words q 0) k))
    → DifferSoFar one other before (set words q z) (q + 1)
one_passed {one} {other} {before} {words} {q} x y u z d h is_x is_y is-u is-z = record {
  long = length-set words q z ∙ d.long;
  few = omega arith;
  passed =
      below_more Passed q
      (λ j l k. ap (λ (n : ℕ). bit n k) (get_or-set_other words q j z 0 (omega arith)) ∙ d.passed j l k)
      (λ k. ap (λ (n : ℕ). bit n k) (get_or-set_same words q z 0 (omega (arith, d.long))) ∙ is-z k ∙ rw (is-u k, is_x k, is_y k, d.left q (omega arith)));
  left = λ j l. get_or-set_other words q j z 0 (omega arith) ∙ d.left j (omega arith);
}
  where
    Passed : ℕ → Type 0
    Passed j = (k : ℕ) → bit (get_or (set words q z) j 0) k ≡ (unlike (bit (get_or one j 0) k) (bit (get_or other j 0) k) || bit (get_or before j 0) k)

pub all_passed : {one other before words : List ℕ} {q : ℕ} → DifferSoFar one other before words q → 4 ≤ q → Differing one other before words
unfolding within
all_passed d h i l = d.passed (i / 64) (omega (arith, d.few)) (i % 64)
