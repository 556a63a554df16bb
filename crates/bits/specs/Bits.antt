-- The bits of a number, and sets of numbers below 256 that are kept as the bits of four words.
-- Assumes nothing.
use Rattle.std.specs.Prelude.{ℕ, ◌/◌, ◌%◌, ◌^◌, ◌≤◌, ◌<◌, ◌≡◌, Bool, true, false, not, ◌&&◌, ◌||◌, List, eqb, length, get_or}
use Rattle.std.specs.Int.Bits.{bit_or}

-- bit k of x is set
unfoldable pub bit : ℕ → ℕ → Bool
bit x k = eqb (x / 2 ^ k % 2) 1

-- x with bit k set
unfoldable pub marked : ℕ → ℕ → ℕ
marked x k = bit_or x (2 ^ k)

-- k is the lowest of the bits that are set in a word of so many
pub record LowestBit (width x k : ℕ) : Type 0 where
  pub room : k < width
  pub there : bit x k ≡ true
  pub none_below : (j : ℕ) → j < k → bit x j ≡ false

-- k is the lowest of the bits that are not set in a word of so many, or their number where all are set
pub record LowestClear (width x k : ℕ) : Type 0 where
  pub most : k ≤ width
  pub clear : k < width → bit x k ≡ false
  pub set_below : (j : ℕ) → j < k → bit x j ≡ true

-- ---- sets in words of 64 bits

-- i is in the set
unfoldable pub within : List ℕ → ℕ → Bool
within set i = bit (get_or set (i / 64) 0) (i % 64)

-- i is in the set besides those that were in it
pub record Added (i : ℕ) (before after : List ℕ) : Type 0 where
  pub long : length after ≡ 4
  pub members : (j : ℕ) → within after j ≡ (eqb i j || within before j)

-- i is no longer in the set, and those others that were in it are
pub record Removed (i : ℕ) (before after : List ℕ) : Type 0 where
  pub long : length after ≡ 4
  pub members : (j : ℕ) → within after j ≡ (not (eqb i j) && within before j)

-- r is the least number in the set, or 256 if there is none
pub record LeastMember (set : List ℕ) (r : ℕ) : Type 0 where
  pub most : r ≤ 256
  pub there : r < 256 → within set r ≡ true
  pub none_below : (i : ℕ) → i < r → within set i ≡ false
