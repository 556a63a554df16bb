-- `telling::crew` meets its contract: the word, the number and the line end, each after the last.
-- Assumes nothing.
use native.Mathlib.Omega.{arith}
use Rattle.telling.proofs.Placed.{then}
use Rattle.telling.proofs.crew.Goals as goal

pub returns : goal.returns
returns c =
    (omega arith, (then c.put-a.ensures (then c.long-b.ensures.1 c.put.ensures)).text)
