-- A number's digits: that `io::decimal` gives them, and how many there are.
-- Assumes nothing.
use mathlib.Core.Path.{◌≡◌, refl}
use mathlib.Core.List.{List, [], ◌∷◌, ◌++◌}
use Prim.Native.Nat.{ℕ, zero, suc, ◌+◌, ◌-◌, ◌/◌, ◌%◌, ◌^◌, ◌≤◌, ◌<◌}
use native.Mathlib.Omega.{arith}
use native.Mathlib.Nat.{mod-eq_of_lt, mod-lt, one-le-pow, pow-le-pow_right}
use native.Mathlib.Decide.{dec_le}
use lib.Dec.{ltb}
use lib.ListN.{length, length-append}
use borrow.Author.Tests.{lt-ltb, le-ltb}
use Rattle.io.specs.Digits.{last_digits, hex_digit_ascii, IsDigitCount}
use Rattle.plain.proofs.Tests.{picked}
use Rattle.telling.specs.Text.{spelled, decimal}

glyph_of : (d : ℕ) → d < 10 → hex_digit_ascii d ≡ 48 + d
glyph_of d h = rw (lt-ltb d 10 h)

one_digit : (more n : ℕ) → n < 10 → spelled more n ≡ (48 + n) ∷ []
unfolding spelled
one_digit zero n h = refl
one_digit (suc more) n h = rw (lt-ltb n 10 h)

more_digits : (more n : ℕ) → 10 ≤ n → spelled (suc more) n ≡ spelled more (n / 10) ++ ((48 + n % 10) ∷ [])
unfolding spelled
more_digits more n h = rw (le-ltb n 10 h)

pub digits_spelled : (k more n : ℕ) → k ≤ more → IsDigitCount 10 1 n (suc k) → last_digits 10 (suc k) n ≡ spelled more n
digits_spelled zero more n h (_, below, _) =
    let small : n < 10 = omega arith in
    rw (one_digit more n small, mod-eq_of_lt small, glyph_of n small)
digits_spelled (suc k) zero n h f = absurd (omega arith)
digits_spelled (suc k) (suc more) n h (_, below, above) =
    let e : suc (suc k) - 1 ≡ suc k = omega arith in
    let g : suc k - 1 ≡ k = omega arith in
    let large : 10 ^ suc k ≤ n = rw e at (above (omega arith)) in
    let fewest : IsDigitCount 10 1 (n / 10) (suc k) = (omega arith, omega arith, λ _. rw g (omega arith)) in
    rw (more_digits more n (omega (arith, one-le-pow k 10 (omega arith))), glyph_of (n % 10) (mod-lt n (omega arith)), digits_spelled k more (n / 10) (omega arith) fewest)

-- 20 digits hold every number of 64 bits
few_digits : (n k : ℕ) → n < 2 ^ 64 → IsDigitCount 10 1 n k → k ≤ 20
few_digits n k h f = go (dec_le k 20) where
  go : Dec (k ≤ 20) → k ≤ 20
  go (yes g) = g
  go (no g) = absurd (omega (arith, f.2 (omega arith), pow-le-pow_right {n = 10} (omega arith) {i = 20} {j = k - 1} (omega arith)))

pub made-decimal : (n k : ℕ) → n < 2 ^ 64 → IsDigitCount 10 1 n k → last_digits 10 k n ≡ decimal n
made-decimal n zero h f = absurd (omega (arith, f.0))
made-decimal n (suc k) h f = digits_spelled k 19 n (omega (arith, few_digits n (suc k) h f)) f

-- 20 at most
pub spelled_most : (more n : ℕ) → length (spelled more n) ≤ suc more
unfolding spelled
spelled_most zero n = omega arith
spelled_most (suc more) n =
    picked (λ (l : List ℕ). length l ≤ suc (suc more)) (ltb n 10) (λ _. omega arith)
    λ _. omega (arith, length-append (spelled more (n / 10)) ((48 + n % 10) ∷ []), spelled_most more (n / 10))

-- 3 at most below 1,000
pub spelled-short : (k more n : ℕ) → n < 10 ^ suc k → length (spelled more n) ≤ suc k
unfolding spelled
spelled-short k zero n h = omega arith
spelled-short zero (suc more) n h = rw (lt-ltb n 10 (omega arith)) (omega arith)
spelled-short (suc k) (suc more) n h =
    picked (λ (l : List ℕ). length l ≤ suc (suc k)) (ltb n 10) (λ _. omega arith)
    λ _. omega (arith, length-append (spelled more (n / 10)) ((48 + n % 10) ∷ []), spelled-short k more (n / 10) (omega arith))
