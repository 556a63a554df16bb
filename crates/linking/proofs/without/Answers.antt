-- `linking::without` meets its contract: the bits of y are put into x and taken out again.
-- Assumes nothing.
use Rattle.bits.proofs.Words.{bit_taken_out}
use Rattle.linking.proofs.without.Goals as goal

pub returns : goal.returns
returns c = bit_taken_out c.args.x c.args.y
