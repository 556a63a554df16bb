-- `tying::gathered` meets its contract: the words of the word's numbers are joined one after another, and fewer are left each time.
-- Assumes nothing.
use Rattle.bits.specs.Bits.{bit}
use Rattle.bits.proofs.Counted.{counted_falls}
use Rattle.tying.proofs.Gathering.{gathering_begins, gathering_on, gathering_ends}
use Rattle.tying.proofs.gathered.Goals as goal

pub loop-rest-init : goal.loop-rest-init
loop-rest-init c = gathering_begins c.args.word c.args.words.now

pub without_bit-rest-requires : goal.without_bit-rest-requires
without_bit-rest-requires c = c.lowest-x.ensures.room

pub loop-rest-smaller : goal.loop-rest-smaller
loop-rest-smaller c =
    counted_falls (bit c.loop-rest.rest) (bit c.without_bit-rest.result) c.lowest-x.result c.lowest-x.ensures.there
    c.without_bit-rest.ensures 64 c.lowest-x.ensures.room

pub loop-rest-preserved : goal.loop-rest-preserved
loop-rest-preserved c =
    gathering_on c.loop-rest.invariant c.lowest-x.result c.lowest-x.ensures.there c.without_bit-rest.result c.joined-all.result
    c.without_bit-rest.ensures c.joined-all.ensures

pub returns : goal.returns
returns c = gathering_ends c.loop-rest.invariant c.loop-rest-test.false
