-- Sets made anew: each has its four words, and nothing is in it.
-- Assumes nothing.
use Prim.Native.Nat.{ℕ, zero, suc, ◌<◌}
use native.Mathlib.Omega.{arith}
use mathlib.Core.Path.{◌≡◌, refl}
use mathlib.Core.Bool.{false}
use mathlib.Core.List.{[]}
use lib.ListN.{length, get_or, replicate}
use Rattle.bits.specs.Bits.{within}
use Rattle.bits.proofs.Members.{fresh_empty}
use Rattle.explained.specs.Wanters.{InFours, AllEmpty}

fours : (n j : ℕ) → j < n → length (get_or (replicate n (replicate {A = ℕ} 4 0)) j []) ≡ 4
fours zero j h = absurd (omega arith)
fours (suc n) zero h = refl
fours (suc n) (suc j) h = fours n j (omega arith)

pub fresh_in_fours : InFours (replicate 512 (replicate 4 0))
fresh_in_fours = fours 512

empty : (n j i : ℕ) → within (get_or (replicate n (replicate {A = ℕ} 4 0)) j []) i ≡ false
empty zero j i = fresh_empty 0 i
empty (suc n) zero i = fresh_empty 4 i
empty (suc n) (suc j) i = empty n j i

pub fresh_all_empty : AllEmpty (replicate 512 (replicate 4 0))
fresh_all_empty = empty 512
