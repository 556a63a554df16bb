-- `telling::long` meets its contract: a number has 20 digits at most.
-- Assumes nothing.
use native.Mathlib.Omega.{arith}
use Rattle.telling.proofs.Digits.{spelled_most}
use Rattle.telling.proofs.long.Goals as goal

pub spaced-requires : goal.spaced-requires
spaced-requires c = omega (arith, spelled_most 19 c.args.n)

pub returns : goal.returns
returns c =
    (omega (arith, spelled_most 19 c.args.n, c.spaced.ensures.place), c.spaced.ensures)
