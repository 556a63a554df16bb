-- What holds at each turn of `renaming::rename_all`.
-- Assumes nothing.
use mathlib.Core.Path.{◌≡◌}
use mathlib.Core.Bool.{true}
use Prim.Native.Nat.{ℕ}
use lib.ListN.{length, get_or}
use Rattle.bits.specs.Bits.{bit}
use Rattle.bits.proofs.Counted.{counted}
use Rattle.renaming.proofs.Words.{RewordedTo}
use Rattle.renaming.proofs.rename_all.Given as goal

abbrev pub invariant-loop-rest : goal.invariant-loop-rest
invariant-loop-rest l =
    (length l.under ≡ 64) × ((i : ℕ) → bit l.rest i ≡ true → bit l.members i ≡ true)
    × (((j : ℕ) → get_or l.initial.under j 0 ≡ 0) → RewordedTo l.members l.rest l.words l.ranks l.under)

abbrev pub decreases-loop-rest : goal.decreases-loop-rest
decreases-loop-rest l = counted (bit l.rest) 64
