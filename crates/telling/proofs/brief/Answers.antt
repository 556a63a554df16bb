-- `telling::brief` meets its contract: a number below 1,000 has three digits at most.
-- Assumes nothing.
use native.Mathlib.Omega.{arith}
use Rattle.telling.proofs.Digits.{spelled-short}
use Rattle.telling.proofs.brief.Goals as goal

pub number-requires : goal.number-requires
number-requires c = omega (arith, spelled-short 2 19 c.args.n (omega arith))

pub returns : goal.returns
returns c =
    (omega (arith, spelled-short 2 19 c.args.n (omega arith), c.number.ensures.place), c.number.ensures)
