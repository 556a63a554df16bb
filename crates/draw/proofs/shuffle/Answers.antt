-- `draw::shuffle` meets its contract: a turn of the loop is a turn of the definition.
-- Assumes nothing.
use mathlib.Core.Path.{◌≡◌, ap, ◌∙◌}
use mathlib.Core.List.{List}
use Prim.Native.Nat.{ℕ, suc, ◌+◌, ◌-◌, ◌%◌}
use native.Mathlib.Omega.{arith}
use Rattle.ranks.specs.Ranks.{exchanged}
use Rattle.draw.specs.Draw.{next, number_after, shuffled}
use Rattle.draw.proofs.shuffle.Goals as goal

turn_list : (last : ℕ) (l : List ℕ) (i k : ℕ) → i ≡ suc k → shuffled k (next last) (exchanged l i (next last % (i + 1))) ≡ shuffled i last l
turn_list last l i k f = rw f

turn_number : (last i k : ℕ) → i ≡ suc k → number_after k (next last) ≡ number_after i last
turn_number last i k f = rw f

pub loop-i-preserved : goal.loop-i-preserved
loop-i-preserved c =
    let loop = c.loop-i in
    let i = loop.i - 1 in
    let k = i - 1 in
    let drew = c.next-last in
    record {
      number = ap (number_after k) drew.ensures ∙ turn_number loop.last i k (omega arith) ∙ loop.invariant.number;
      list =
          ap (shuffled k drew.result) c.exchange.ensures
          ∙ ap (λ (r : ℕ). shuffled k r (exchanged loop.ranks i (r % (i + 1)))) drew.ensures
          ∙ turn_list loop.last loop.ranks i k (omega arith) ∙ loop.invariant.list;
    }
