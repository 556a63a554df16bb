-- `bits::holds` meets its contract: x shifted right by k has bit k as its lowest.
-- Assumes nothing.
use mathlib.Core.Path.{refl}
use Rattle.bits.specs.Bits.{bit}
use Rattle.bits.proofs.holds.Goals as goal

pub returns : goal.returns
unfolding bit
returns c = refl
