-- `records::is_at` meets its contract: true comes last, where the body fits and the kind stands.
-- Assumes nothing.
use mathlib.Core.Path.{◌∙◌}
use mathlib.Core.Bool.{false≢true}
use Prim.Native.Nat.{◌+◌, ◌≤◌}
use native.Mathlib.Omega.{arith}
use lib.ListN.{length}
use borrow.Author.Tests.{le-leb, eqb-true}
use Rattle.records.proofs.Laws.{record_of_kind}
use Rattle.records.proofs.is_at.Goals as goal

pub returns-then-file-at : goal.returns-then-file-at
returns-then-file-at c low high b t = absurd (false≢true t)

pub returns : goal.returns
returns c low high b t =
    let a = c.args in
    let whole : a.at + 1 + a.body ≤ length a.file.now = omega (arith, c.if-file-at.false, c.requires) in
    record_of_kind _ _ (omega (arith, whole)) _ (eqb-true _ a.kind t) low high ∙ rw (← b, le-leb (a.at + 1 + a.body) (length a.file.now) whole)
