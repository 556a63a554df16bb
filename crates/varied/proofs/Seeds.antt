-- The first of so many seeds in a row that is out of range, by comparisons.
-- Assumes nothing.
use Prim.Native.Nat.{ℕ, zero, suc, ◌+◌, ◌≤◌, ◌<◌}
use native.Mathlib.Omega.{arith}
use native.Mathlib.Decide.{dec_le}
use mathlib.Core.Path.{◌≡◌, refl, ap}
use mathlib.Core.Bool.{true, false, and-eq-true_iff}
use mathlib.Core.Option.{none, some}
use lib.Dec.{leb}
use borrow.Author.Tests.{leb-true, le-leb, lt-leb}
use Rattle.draw.specs.Draw.{seed_in_range}
use Rattle.varied.specs.Report.{first_outside}

-- ---- one seed

in_range_tells : (seed : ℕ) → seed_in_range seed ≡ true → (1 ≤ seed) × (seed ≤ 2147483646)
in_range_tells seed e =
    let t = (and-eq-true_iff (leb 1 seed) (leb seed 2147483646)).0 e in
    (leb-true 1 seed t.0, leb-true seed 2147483646 t.1)

in_range_lem : (seed : ℕ) → 1 ≤ seed → seed ≤ 2147483646 → seed_in_range seed ≡ true
in_range_lem seed low high = simp (le-leb 1 seed low, le-leb seed 2147483646 high)

past_the_last : (seed : ℕ) → 2147483646 < seed → seed_in_range seed ≡ false
past_the_last seed high = simp (le-leb 1 seed (omega arith), lt-leb seed 2147483646 high)

-- ---- n seeds from the first on

none_outside : (first n : ℕ) → 1 ≤ first → first + n ≤ 2147483647 → first_outside first n ≡ none
unfolding first_outside
none_outside first zero low high = refl
none_outside first (suc n) low high = rw (in_range_lem first low (omega arith)) (none_outside (suc first) n (omega arith) (omega arith))

outside_after : (first n : ℕ) → 1 ≤ first → first ≤ 2147483647 → 2147483647 < first + n → first_outside first n ≡ some 2147483647
unfolding first_outside
outside_after first zero low high far = absurd (omega arith)
outside_after first (suc n) low high far = go (dec_le first 2147483646) (outside_after (suc first) n)
  where
    go : Dec (first ≤ 2147483646)
        → (1 ≤ suc first → suc first ≤ 2147483647 → 2147483647 < suc first + n → first_outside (suc first) n ≡ some 2147483647)
        → first_outside first (suc n) ≡ some 2147483647
    go (yes h) later = rw (in_range_lem first low h) (later (omega arith) (omega arith) (omega arith))
    go (no h) later = rw (past_the_last first (omega arith)) (ap some (omega arith))

pub first_seed_outside : (first n : ℕ) → 1 ≤ n → seed_in_range first ≡ false → first_outside first n ≡ some first
unfolding first_outside
first_seed_outside first zero h e = absurd (omega arith)
first_seed_outside first (suc n) h e = rw e

pub no_seed_outside : (first n : ℕ) → seed_in_range first ≡ true → first + n ≤ 2147483647 → first_outside first n ≡ none
no_seed_outside first n e = none_outside first n (in_range_tells first e).0

pub last_seeds_outside : (first n : ℕ) → seed_in_range first ≡ true → 2147483647 < first + n → first_outside first n ≡ some 2147483647
last_seeds_outside first n e = let (low, high) = in_range_tells first e in outside_after first n low (omega arith)
