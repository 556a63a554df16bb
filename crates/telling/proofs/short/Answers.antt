-- `telling::short` meets its contract: a number below 1,000 has three digits at most.
-- Assumes nothing.
use native.Mathlib.Omega.{arith}
use Rattle.telling.proofs.Digits.{spelled-short}
use Rattle.telling.proofs.short.Goals as goal

pub spaced-requires : goal.spaced-requires
spaced-requires c = omega (arith, spelled-short 2 19 c.args.n (omega arith))

pub returns : goal.returns
returns c =
    (omega (arith, spelled-short 2 19 c.args.n (omega arith), c.spaced.ensures.place), c.spaced.ensures)
