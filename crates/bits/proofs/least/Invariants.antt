-- What holds at each turn of `bits::least`.
-- Assumes nothing.
use mathlib.Core.Path.{◌≡◌}
use mathlib.Core.Bool.{false}
use Prim.Native.Nat.{ℕ, ◌*◌, ◌<◌}
use Rattle.bits.specs.Bits.{within}
use Rattle.bits.proofs.least.Given as goal

abbrev pub invariant-loop-q : goal.invariant-loop-q
invariant-loop-q l = (i : ℕ) → i < 64 * l.q → within l.set i ≡ false
