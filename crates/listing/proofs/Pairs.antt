-- The pairs that bytes stand for, by their places, and rows of bits that have them.
-- Assumes nothing.
use mathlib.Core.Path.{◌≡◌, refl}
use mathlib.Core.List.{List, [], ◌∷◌}
use Prim.Native.Nat.{ℕ, zero, suc, ◌+◌, ◌*◌, ◌/◌, ◌%◌, ◌<◌}
use native.Mathlib.Numerals.{add-one}
use native.Mathlib.Omega.{arith}
use lib.ListN.{length, get_or}
use Rattle.charts.specs.Charts.{pair, pairs_of}
use Rattle.charts.specs.Faults.{pair_at}

pub length_pairs : (bytes : List ℕ) → length (pairs_of bytes) ≡ length bytes / 2 + length bytes % 2
unfolding pairs_of
length_pairs [] = refl
length_pairs (x ∷ []) = refl
length_pairs (x ∷ y ∷ rest) = omega (arith, length_pairs rest)

two_bytes : (bytes : List ℕ) (k at : ℕ) → at ≡ 2 * k → suc at < length bytes → pair_at (pairs_of bytes) k ≡ pair (get_or bytes at 0) (get_or bytes (suc at) 0)
unfolding pairs_of
two_bytes [] k at e h = absurd (omega arith)
two_bytes (x ∷ []) k at e h = absurd (omega arith)
two_bytes (x ∷ y ∷ rest) zero zero e h = refl
two_bytes (x ∷ y ∷ rest) zero (suc at) e h = absurd (omega arith)
two_bytes (x ∷ y ∷ rest) (suc k) zero e h = absurd (omega arith)
two_bytes (x ∷ y ∷ rest) (suc k) (suc zero) e h = absurd (omega arith)
two_bytes (x ∷ y ∷ rest) (suc k) (suc (suc at)) e h = two_bytes rest k at (omega arith) (omega arith)

-- pair k is that of the two bytes from 2 k on
pub pair_at_lem : (bytes : List ℕ) (k at : ℕ) → at ≡ 2 * k → at + 1 < length bytes → pair_at (pairs_of bytes) k ≡ pair (get_or bytes at 0) (get_or bytes (at + 1) 0)
pair_at_lem bytes k at e h = rw (add-one at) (two_bytes bytes k at e (omega arith))

-- .. or of the last byte and itself, where that stands alone
pub lone_pair : (bytes : List ℕ) (k at : ℕ) → at ≡ 2 * k → at + 1 ≡ length bytes → pair_at (pairs_of bytes) k ≡ pair (get_or bytes at 0) (get_or bytes at 0)
unfolding pairs_of
lone_pair [] k at e h = absurd (omega arith)
lone_pair (x ∷ []) zero zero e h = refl
lone_pair (x ∷ []) zero (suc at) e h = absurd (omega arith)
lone_pair (x ∷ []) (suc k) at e h = absurd (omega arith)
lone_pair (x ∷ y ∷ rest) zero at e h = absurd (omega arith)
lone_pair (x ∷ y ∷ rest) (suc k) zero e h = absurd (omega arith)
lone_pair (x ∷ y ∷ rest) (suc k) (suc zero) e h = absurd (omega arith)
lone_pair (x ∷ y ∷ rest) (suc k) (suc (suc at)) e h = lone_pair rest k at (omega arith) (omega arith)
