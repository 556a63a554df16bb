-- `marks::with` meets its contract: one bit more of 16.
-- Assumes nothing.
use Rattle.bits.proofs.Words.{bit-marked, one_put_in}
use Rattle.marks.proofs.with.Goals as goal

pub returns : goal.returns
returns c j = rw (one_put_in 16 c.args.q c.requires c.args.word) (bit-marked c.args.word c.args.q j)
