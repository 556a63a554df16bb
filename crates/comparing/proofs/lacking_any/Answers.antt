-- `comparing::lacking_any` meets its contract: what one member after another lacks is joined.
-- Assumes nothing.
use Rattle.bits.specs.Bits.{bit}
use Rattle.bits.proofs.Counted.{counted_falls}
use Rattle.comparing.proofs.Wanting.{lacks_begins, lacks_on, lacks_ends}
use Rattle.comparing.proofs.lacking_any.Goals as goal

pub loop-rest-init : goal.loop-rest-init
loop-rest-init c = lacks_begins c.args.members c.args.words.now c.args.ties.now

pub without_bit-rest-requires : goal.without_bit-rest-requires
without_bit-rest-requires c = c.lowest-y.ensures.room

pub loop-rest-smaller : goal.loop-rest-smaller
loop-rest-smaller c =
    counted_falls (bit c.loop-rest.rest) (bit c.without_bit-rest.result) c.lowest-y.result c.lowest-y.ensures.there
    c.without_bit-rest.ensures 64 c.lowest-y.ensures.room

pub loop-rest-preserved : goal.loop-rest-preserved
loop-rest-preserved c =
    lacks_on c.args.members c.args.words.now c.args.ties.now c.loop-rest.invariant c.lowest-y.result c.lowest-y.ensures.there
    c.without_bit-rest.result c.without.result c.joined-any.result c.without_bit-rest.ensures c.without.ensures c.joined-any.ensures

pub returns : goal.returns
returns c =
    lacks_ends c.args.members c.args.words.now c.args.ties.now c.loop-rest.invariant c.loop-rest-test.false
