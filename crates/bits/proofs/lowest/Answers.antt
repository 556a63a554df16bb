-- `bits::lowest` meets its contract: as many zeros as stand at the end of x stand below its lowest bit.
-- Assumes nothing.
use native.Mathlib.Omega.{arith}
use lib.Count.{trailing_le}
use Rattle.bits.proofs.Words.{trailing_lowest}
use Rattle.bits.proofs.lowest.Goals as goal

pub overflow_cast-result : goal.overflow_cast-result
overflow_cast-result c = omega (arith, trailing_le 64 c.args.x)

pub returns : goal.returns
returns c = trailing_lowest 64 c.args.x c.requires (omega arith)
