-- `telling::refused` meets its contract: the word, the three numbers and the line end, each after the last.
-- Assumes nothing.
use native.Mathlib.Omega.{arith}
use Rattle.telling.proofs.Placed.{then}
use Rattle.telling.proofs.refused.Goals as goal

pub returns : goal.returns
returns c = (
  omega arith,
  (then c.put-a.ensures (then c.long-b.ensures.1 (then c.long-c.ensures.1 (then c.long-d.ensures.1 c.put.ensures)))).text,
)
