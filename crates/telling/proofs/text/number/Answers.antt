-- `telling::text::number` meets its contract: what is put are the number's digits.
-- Assumes nothing.
use mathlib.Core.Path.{subst, ◌∙◌}
use mathlib.Core.List.{List}
use Prim.Native.Nat.{ℕ}
use native.Mathlib.Omega.{arith}
use Rattle.telling.specs.Text.{Appends}
use Rattle.telling.proofs.Digits.{made-decimal}
use Rattle.telling.proofs.text.number.Goals as goal

pub put-requires : goal.put-requires
put-requires c =
    rw (c.decimal-k.ensures.digits ∙ made-decimal c.args.n c.decimal-k.result (omega (arith, c.ranges.n)) c.decimal-k.ensures.len) c.requires

pub returns : goal.returns
returns c =
    let e = c.decimal-k.ensures.digits ∙ made-decimal c.args.n c.decimal-k.result (omega (arith, c.ranges.n)) c.decimal-k.ensures.len in
    subst (λ (l : List ℕ). Appends c.args.out.now c.args.at l c.put.new.out c.put.result) e c.put.ensures
