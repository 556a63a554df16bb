-- Rows made anew: 256 of four words each, and nothing is in them.
-- Assumes nothing.
use Prim.Native.Nat.{ℕ, zero, suc, ◌<◌}
use native.Mathlib.Omega.{arith}
use mathlib.Core.Path.{◌≡◌, refl}
use mathlib.Core.Bool.{false}
use mathlib.Core.List.{[]}
use lib.ListN.{length, get_or, replicate}
use Rattle.bits.specs.Bits.{within}
use Rattle.bits.proofs.Members.{fresh_empty}
use Rattle.linking.specs.Linking.{Shaped}
use Rattle.listing.specs.Listing.{AllEmpty}

fours : (n x : ℕ) → x < n → length (get_or (replicate n (replicate {A = ℕ} 4 0)) x []) ≡ 4
fours zero x h = absurd (omega arith)
fours (suc n) zero h = refl
fours (suc n) (suc x) h = fours n x (omega arith)

pub fresh_shaped : Shaped (replicate 256 (replicate 4 0))
fresh_shaped = record { long = refl; fours = fours 256 }

empty : (n x y : ℕ) → within (get_or (replicate n (replicate {A = ℕ} 4 0)) x []) y ≡ false
empty zero x y = fresh_empty 0 y
empty (suc n) zero y = fresh_empty 4 y
empty (suc n) (suc x) y = empty n x y

pub fresh_all_empty : AllEmpty (replicate 256 (replicate 4 0))
fresh_all_empty = empty 256
