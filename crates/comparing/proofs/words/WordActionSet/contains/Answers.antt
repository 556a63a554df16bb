-- `contains` of a word meets its contract: no number past the word is in it.
-- Assumes nothing.
use mathlib.Core.Path.{◌≡◌, sym, ◌∙◌}
use mathlib.Core.Bool.{false}
use Prim.Native.Nat.{ℕ, ◌^◌, ◌≤◌, ◌<◌}
use native.Mathlib.Nat.{div-eq_of_lt, pow-le-pow_right}
use native.Mathlib.Omega.{arith}
use borrow.Author.Tests.{le-ltb}
use Rattle.bits.specs.Bits.{bit}
use Rattle.comparing.proofs.words.WordActionSet.contains.Goals as goal

past_word : (x i : ℕ) → x < 2 ^ 64 → 64 ≤ i → bit x i ≡ false
unfolding bit
past_word x i h past =
    let few : 2 ^ 64 ≤ 2 ^ i = pow-le-pow_right (omega arith) past in
    let below : x < 2 ^ i = omega arith in
    rw (div-eq_of_lt below)

pub returns-else-i-lt-FEW : goal.returns-else-i-lt-FEW
returns-else-i-lt-FEW c =
    le-ltb c.args.i 64 c.if-i-lt-FEW.false ∙ sym (past_word c.args.self.now.0 c.args.i (omega arith) c.if-i-lt-FEW.false)
