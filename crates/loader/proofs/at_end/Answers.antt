-- `loader::at_end` meets its contract: the end record stands there, and its kind may come.
-- Assumes nothing.
use mathlib.Core.Bool.{not, false≢true}
use mathlib.Core.Path.{ap, ◌≡◌, refl, sym, ◌∙◌}
use Prim.Native.Nat.{◌+◌}
use native.Mathlib.Omega.{arith}
use borrow.Author.Tests.{not-false}
use Rattle.records.specs.Records.{body_length_lem, body_lengths}
use Rattle.loader.proofs.at_end.Goals as goal

pub returns-then-not-is_at : goal.returns-then-not-is_at
returns-then-not-is_at c t = absurd (false≢true t)

pub returns : goal.returns
unfolding body_length_lem body_lengths
returns c t =
    let p = c.args.p in
    let n : p.at + 1 + 0 ≡ p.at + 1 = omega arith in
    (rw n at (c.is_at.ensures (omega arith) (omega arith) refl (not-false _ (ap not c.if-not-is_at.false))), sym c.may_follow.ensures ∙ t)
