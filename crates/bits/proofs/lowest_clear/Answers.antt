-- `bits::lowest_clear` meets its contract: one more than x ends in as many zeros as x ends in ones.
-- Assumes nothing.
use mathlib.Core.Path.{subst, sym}
use native.Mathlib.Omega.{arith}
use Prim.Native.Nat.{ℕ, ◌+◌}
use lib.Count.{count_trailing_zeros, trailing_le}
use Rattle.bits.specs.Bits.{LowestClear}
use Rattle.bits.proofs.Words.{trailing_clear}
use Rattle.bits.proofs.lowest_clear.Goals as goal

pub returns-then-x-eq18446744073709551615 : goal.returns-then-x-eq18446744073709551615
unfolding count_trailing_zeros
returns-then-x-eq18446744073709551615 c = subst (λ (x : ℕ). LowestClear 64 x 64) (sym c.if-x-eq18446744073709551615.true) (trailing_clear 64 18446744073709551615)

pub overflow_cast-result : goal.overflow_cast-result
overflow_cast-result c = omega (arith, trailing_le 64 (c.before.args.x + 1))

pub returns : goal.returns
returns c = trailing_clear 64 c.before.args.x
