-- `linking::gather_word` meets its contract: the rows of the numbers of the word are joined one after another, and fewer are left each time.
-- Assumes nothing.
use Prim.Native.Nat.{◌+◌, ◌*◌, ◌<◌}
use native.Mathlib.Omega.{arith}
use Rattle.bits.specs.Bits.{bit}
use Rattle.bits.proofs.Counted.{counted_falls}
use Rattle.linking.proofs.Gathering.{word_begins, word_on, word_ends}
use Rattle.linking.proofs.gather_word.Goals as goal

pub loop-rest-init : goal.loop-rest-init
loop-rest-init c = word_begins c.args.q c.args.word c.args.rows.now c.args.all.now c.requires.2

pub without_bit-rest-requires : goal.without_bit-rest-requires
without_bit-rest-requires c = c.lowest-k.ensures.room

pub overflow_mul-q : goal.overflow_mul-q
overflow_mul-q c = omega (arith, c.lowest-k.ensures.room, c.requires.0)

pub overflow_cast-k : goal.overflow_cast-k
overflow_cast-k c = omega (arith, c.lowest-k.ensures.room, c.requires.0)

pub overflow_add-q : goal.overflow_add-q
overflow_add-q c = omega (arith, c.lowest-k.ensures.room, c.requires.0)

pub offset_bounds-rows-q : goal.offset_bounds-rows-q
offset_bounds-rows-q c = omega (arith, c.lowest-k.ensures.room, c.requires.0)

pub bounds-rows-q : goal.bounds-rows-q
bounds-rows-q c = omega (arith, c.lowest-k.ensures.room, c.requires.0)

pub join-requires : goal.join-requires
join-requires c =
    let low : 64 * c.args.q + c.lowest-k.result < 256 = omega (arith, c.lowest-k.ensures.room, c.requires.0) in
    (c.loop-rest.invariant.joins.long, c.requires.1.fours (64 * c.args.q + c.lowest-k.result) low)

pub loop-rest-smaller : goal.loop-rest-smaller
loop-rest-smaller c =
    counted_falls (bit c.loop-rest.rest) (bit c.without_bit-rest.result) c.lowest-k.result c.lowest-k.ensures.there
    c.without_bit-rest.ensures 64 c.lowest-k.ensures.room

pub loop-rest-preserved : goal.loop-rest-preserved
loop-rest-preserved c =
    word_on c.loop-rest.invariant c.lowest-k.result c.lowest-k.ensures.room c.lowest-k.ensures.there
    c.without_bit-rest.result c.without_bit-rest.ensures c.join.ensures

pub returns : goal.returns
returns c = word_ends c.loop-rest.invariant c.loop-rest-test.false
