-- `telling::step` meets its contract: five numbers and the line end, each after the last.
-- Assumes nothing.
use native.Mathlib.Omega.{arith}
use Rattle.telling.proofs.Placed.{then}
use Rattle.telling.proofs.step.Goals as goal

pub returns : goal.returns
returns c = (
  omega arith,
  then c.brief-a.ensures.1
      (then c.short-b.ensures.1
      (then c.short-c.ensures.1 (then c.short-d.ensures.1 (then c.short-e.ensures.1 c.put.ensures)))),
)
