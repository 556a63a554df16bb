-- `bits::mark` meets its contract: one shifted left by k is the power of two that is put into x.
-- Assumes nothing.
use Rattle.bits.proofs.Words.{one_put_in}
use Rattle.bits.proofs.mark.Goals as goal

pub returns : goal.returns
returns c = one_put_in 64 c.args.k c.requires c.args.x
