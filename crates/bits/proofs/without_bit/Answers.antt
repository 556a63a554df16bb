-- `bits::without_bit` meets its contract: bit k is put into x, and taken out again.
-- Assumes nothing.
use Rattle.bits.proofs.Words.{one_taken_out}
use Rattle.bits.proofs.without_bit.Goals as goal

pub returns : goal.returns
returns c = one_taken_out 64 c.args.k c.requires c.args.x
