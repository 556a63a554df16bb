-- `advancing::out_by` meets its contract: the bit says which.
-- Assumes nothing.
use mathlib.Core.Path.{refl}
use native.Mathlib.Omega.{arith}
use Rattle.advancing.proofs.out_by.Goals as goal

pub returns-then-holds : goal.returns-then-holds
returns-then-holds c = rw (← c.holds.ensures, c.if-holds.true) (refl, omega arith)

pub returns : goal.returns
returns c = rw (← c.holds.ensures, c.if-holds.false) (refl, omega arith)
