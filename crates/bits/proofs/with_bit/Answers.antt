-- `bits::with_bit` meets its contract: the number that has bit k besides has the bits that it is to have.
-- Assumes nothing.
use Rattle.bits.proofs.Words.{bit-marked}
use Rattle.bits.proofs.with_bit.Goals as goal

pub returns : goal.returns
returns c = rw c.mark.ensures (bit-marked c.before.args.x c.before.args.k)
