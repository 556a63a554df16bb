-- `bits::joined` meets its contract: the bits of y are put into x.
-- Assumes nothing.
use Rattle.bits.proofs.Words.{bit_put_in}
use Rattle.bits.proofs.joined.Goals as goal

pub returns : goal.returns
returns c = bit_put_in c.args.x c.args.y
