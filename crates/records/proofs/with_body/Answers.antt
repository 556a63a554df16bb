-- `records::with_body` meets its contract: what is left of the file behind the kind says whether the body is whole.
-- Assumes nothing.
use Prim.Native.Nat.{◌+◌}
use native.Mathlib.Omega.{arith}
use borrow.Author.Tests.{le-leb, lt-leb}
use Rattle.records.proofs.with_body.Goals as goal

pub returns-then-body-len : goal.returns-then-body-len
returns-then-body-len c = rw (le-leb (c.args.at + 1 + c.args.body) c.args.len (omega (arith, c.if-body-len.true, c.requires)))

pub returns-else-body-len : goal.returns-else-body-len
returns-else-body-len c = rw (lt-leb (c.args.at + 1 + c.args.body) c.args.len (omega (arith, c.if-body-len.false, c.requires)))
