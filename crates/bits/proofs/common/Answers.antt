-- `bits::common` meets its contract: the digits of both, one by one.
-- Assumes nothing.
use Rattle.bits.proofs.Words.{bit_common}
use Rattle.bits.proofs.common.Goals as goal

pub returns : goal.returns
returns c = bit_common c.args.x c.args.y
