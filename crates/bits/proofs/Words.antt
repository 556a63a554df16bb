-- The bits of one number: found by halving, under and, or and xor, of a power of two, the lowest that is set, and the lowest that is not.
-- Assumes nothing.
use mathlib.Core.Path.{◌≡◌, refl, sym, ap, ◌∙◌}
use mathlib.Core.Bool.{Bool, true, false, not, ◌&&◌, ◌||◌}
use Prim.Native.Nat.{ℕ, zero, suc, ◌+◌, ◌*◌, ◌/◌, ◌%◌, ◌^◌, ◌<◌}
use native.Mathlib.Nat.{pow-suc, pow-succ', div-one, one-mul, div-div-eq-div-mul, zero-div, mul-mod_left, mul-div_cancel}
use native.Mathlib.Omega.{arith}
use lib.Dec.{eqb, eqb-zero-suc, eqb-suc-zero, eqb-suc-suc}
use lib.Bits.{bit_and, bit_or, bit_xor, and_shr, or_shr, xor_shr, and_mod, or_mod, xor_mod}
use lib.Count.{count_trailing_zeros, under}
use lib.Pow.{shl_exact}
use Rattle.bits.specs.Bits.{bit, marked, LowestBit, LowestClear}

-- what is to be shown of two numbers below 2
both_digits : (P : ℕ → ℕ → Type 0) → P 0 0 → P 0 1 → P 1 0 → P 1 1 → (d e : ℕ) → d < 2 → e < 2 → P d e
both_digits P a b c d zero zero h g = a
both_digits P a b c d zero (suc zero) h g = b
both_digits P a b c d (suc zero) zero h g = c
both_digits P a b c d (suc zero) (suc zero) h g = d
both_digits P a b c d (suc (suc _)) _ h g = absurd (omega arith)
both_digits P a b c d zero (suc (suc _)) h g = absurd (omega arith)
both_digits P a b c d (suc zero) (suc (suc _)) h g = absurd (omega arith)

-- ---- found by halving

pub bit_lowest : (x : ℕ) → bit x 0 ≡ eqb (x % 2) 1
unfolding bit
bit_lowest x = rw (div-one x)

-- a bit above the lowest is a bit of the half
pub bit_of_half : (x k : ℕ) → bit x (suc k) ≡ bit (x / 2) k
unfolding bit
bit_of_half x k = rw (pow-succ' 2 k, ← div-div-eq-div-mul x 2 (2 ^ k))

pub bit_zero : (k : ℕ) → bit 0 k ≡ false
unfolding bit
bit_zero k = rw (zero-div (2 ^ k))

same_digit : (d e : ℕ) → d < 2 → e < 2 → eqb d 1 ≡ eqb e 1 → d ≡ e
same_digit = both_digits _ (λ q. refl) (λ q. cc) (λ q. cc) (λ q. refl)

-- numbers with the same bits are one
pub same_bits : (width x y : ℕ) → x < 2 ^ width → y < 2 ^ width → ((k : ℕ) → k < width → bit x k ≡ bit y k) → x ≡ y
same_bits zero x y h g e = omega arith
same_bits (suc w) x y h g e =
    omega (
      arith,
      same_digit (x % 2) (y % 2) (omega arith) (omega arith) (sym (bit_lowest x) ∙ e 0 (omega arith) ∙ bit_lowest y),
      same_bits w (x / 2) (y / 2) (omega (arith, pow-suc 2 w)) (omega (arith, pow-suc 2 w))
          (λ k j. sym (bit_of_half x k) ∙ e (suc k) (omega arith) ∙ bit_of_half y k),
    )

-- ---- under and, or and xor

-- an operation that goes bit by bit, and what it does to two bits
module _
    (f : ℕ → ℕ → ℕ) (g : Bool → Bool → Bool)
    (high : (x y k : ℕ) → f x y / 2 ^ k ≡ f (x / 2 ^ k) (y / 2 ^ k))
    (low : (x y : ℕ) → f x y % 2 ≡ f (x % 2) (y % 2))
    (one : (d e : ℕ) → d < 2 → e < 2 → eqb (f d e) 1 ≡ g (eqb d 1) (eqb e 1)) where
  bit_by_bit : (x y k : ℕ) → bit (f x y) k ≡ g (bit x k) (bit y k)
  unfolding bit
  bit_by_bit x y k = rw (high x y k, low (x / 2 ^ k) (y / 2 ^ k)) (one _ _ (omega arith) (omega arith))

pub bit_common : (x y k : ℕ) → bit (bit_and x y) k ≡ (bit x k && bit y k)
bit_common = bit_by_bit bit_and ◌&&◌ and_shr (λ x y. and_mod x y 1) (both_digits _ refl refl refl refl)

-- the bits of y put into x
pub bit_put_in : (x y k : ℕ) → bit (bit_or x y) k ≡ (bit y k || bit x k)
bit_put_in = bit_by_bit bit_or (λ a b. b || a) or_shr (λ x y. or_mod x y 1) (both_digits _ refl refl refl refl)

-- .. and taken out again
pub bit_taken_out : (x y k : ℕ) → bit (bit_xor (bit_or x y) y) k ≡ (not (bit y k) && bit x k)
bit_taken_out =
    bit_by_bit (λ x y. bit_xor (bit_or x y) y) (λ a b. not b && a)
    (λ x y k. xor_shr (bit_or x y) y k ∙ ap (λ (n : ℕ). bit_xor n (y / 2 ^ k)) (or_shr x y k))
    (λ x y. xor_mod (bit_or x y) y 1 ∙ ap (λ (n : ℕ). bit_xor n (y % 2)) (or_mod x y 1))
    (both_digits _ refl refl refl refl)

-- ---- of a power of two

pub bit_power : (k j : ℕ) → bit (2 ^ k) j ≡ eqb k j
bit_power zero zero = bit_lowest 1
bit_power zero (suc j) = bit_of_half 1 j ∙ bit_zero j ∙ sym (eqb-zero-suc j)
bit_power (suc k) zero = bit_lowest (2 ^ suc k) ∙ rw (pow-suc 2 k, mul-mod_left (2 ^ k) 2, eqb-suc-zero k)
bit_power (suc k) (suc j) =
    bit_of_half (2 ^ suc k) j ∙ rw (pow-suc 2 k, mul-div_cancel (2 ^ k) {n = 2} (omega arith), eqb-suc-suc k j) (bit_power k j)

-- x with bit k set has that bit besides its own
pub bit-marked : (x k j : ℕ) → bit (marked x k) j ≡ (eqb k j || bit x j)
unfolding marked
bit-marked x k j = bit_put_in x (2 ^ k) j ∙ ap (λ (b : Bool). b || bit x j) (bit_power k j)

-- one shifted has one bit, which is put into x, and taken out
module _ (width k : ℕ) (h : k < width) where
  shifted : 1 * 2 ^ k % 2 ^ width ≡ 2 ^ k
  shifted = shl_exact {a = 1} 1 k width (omega arith) (omega arith) ∙ one-mul (2 ^ k)

  bit_shifted : (j : ℕ) → bit (1 * 2 ^ k % 2 ^ width) j ≡ eqb k j
  bit_shifted j = rw shifted (bit_power k j)

  pub one_put_in : (x : ℕ) → bit_or x (1 * 2 ^ k % 2 ^ width) ≡ marked x k
  unfolding marked
  one_put_in x = rw shifted

  pub one_taken_out :
      (x j : ℕ) → bit (bit_xor (bit_or x (1 * 2 ^ k % 2 ^ width)) (1 * 2 ^ k % 2 ^ width)) j ≡ (not (eqb k j) && bit x j)
  one_taken_out x j = bit_taken_out x _ j ∙ ap (λ (b : Bool). not b && bit x j) (bit_shifted j)

-- ---- the lowest that is set

lowest_odd : (width x : ℕ) → x % 2 ≡ 1 → LowestBit (suc width) x 0
lowest_odd w x e = record { room = omega arith; there = bit_lowest x ∙ rw e; none_below = λ j h. absurd (omega arith) }

lowest_even : {width x k : ℕ} → x % 2 ≡ 0 → LowestBit width (x / 2) k → LowestBit (suc width) x (suc k)
lowest_even {width} {x} {k} e l =
    record { room = omega (arith, l.room); there = bit_of_half x k ∙ l.there; none_below = below }
  where
    below : (j : ℕ) → j < suc k → bit x j ≡ false
    below zero h = bit_lowest x ∙ rw e
    below (suc j) h = bit_of_half x j ∙ l.none_below j (omega arith)

pub trailing_lowest : (width x : ℕ) → 0 < x → x < 2 ^ width → LowestBit width x (count_trailing_zeros width x)
unfolding count_trailing_zeros
trailing_lowest zero x p h = absurd (omega arith)
trailing_lowest (suc w) x p h = go (x % 2) refl (λ q. trailing_lowest w (x / 2) q (omega (arith, pow-suc 2 w)))
  where
    go :
        (d : ℕ) → x % 2 ≡ d → (0 < x / 2 → LowestBit w (x / 2) (count_trailing_zeros w (x / 2)))
        → LowestBit (suc w) x (under d (count_trailing_zeros w (x / 2)))
    go zero e rest = lowest_even e (rest (omega arith))
    go (suc d) e rest = lowest_odd w x (omega arith)

-- ---- the lowest that is not set

clear_even : (width x : ℕ) → x % 2 ≡ 0 → LowestClear (suc width) x 0
clear_even w x e = record { most = omega arith; clear = λ _. bit_lowest x ∙ rw e; set_below = λ j h. absurd (omega arith) }

clear_odd : {width x k : ℕ} → x % 2 ≡ 1 → LowestClear width (x / 2) k → LowestClear (suc width) x (suc k)
clear_odd {width} {x} {k} e l =
    record { most = omega (arith, l.most); clear = λ h. bit_of_half x k ∙ l.clear (omega arith); set_below = below }
  where
    below : (j : ℕ) → j < suc k → bit x j ≡ true
    below zero h = bit_lowest x ∙ rw e
    below (suc j) h = bit_of_half x j ∙ l.set_below j (omega arith)

-- one more than x ends in as many zeros as x ends in ones
pub trailing_clear : (width x : ℕ) → LowestClear width x (count_trailing_zeros width (x + 1))
unfolding count_trailing_zeros
trailing_clear zero x = record { most = omega arith; clear = λ h. absurd (omega arith); set_below = λ j h. absurd (omega arith) }
trailing_clear (suc w) x = go (x % 2) refl ((x + 1) % 2) refl (trailing_clear w (x / 2))
  where
    go :
        (d : ℕ) → x % 2 ≡ d → (m : ℕ) → (x + 1) % 2 ≡ m → LowestClear w (x / 2) (count_trailing_zeros w (x / 2 + 1))
        → LowestClear (suc w) x (under m (count_trailing_zeros w ((x + 1) / 2)))
    go zero e zero f rest = absurd (omega arith)
    go zero e (suc m) f rest = clear_even w x e
    go (suc d) e zero f rest =
        let half : (x + 1) / 2 ≡ x / 2 + 1 = omega arith in
        rw half (clear_odd (omega arith) rest)
    go (suc d) e (suc m) f rest = absurd (omega arith)
