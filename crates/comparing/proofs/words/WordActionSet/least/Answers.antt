-- `least` of a word meets its contract: no bit of 0 is set.
-- Assumes nothing.
use mathlib.Core.Path.{ap, ◌∙◌}
use Prim.Native.Nat.{ℕ}
use native.Mathlib.Omega.{arith}
use Rattle.bits.specs.Bits.{bit}
use Rattle.bits.proofs.Words.{bit_zero}
use Rattle.comparing.proofs.words.WordActionSet.least.Goals as goal

pub returns-then-self-eq0 : goal.returns-then-self-eq0
returns-then-self-eq0 c = record {
  most = omega arith;
  there = λ h. absurd (omega arith);
  none_below = λ i h. ap (λ (n : ℕ). bit n i) c.if-self-eq0.true ∙ bit_zero i;
}
