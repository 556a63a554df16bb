-- `hanging::least_free` meets its contract: those left are looked at from the lowest on, and fewer are to be looked at each time.
-- Assumes nothing.
use native.Mathlib.Omega.{arith}
use Rattle.bits.specs.Bits.{bit}
use Rattle.bits.proofs.Counted.{counted_falls}
use Rattle.hanging.proofs.Looking.{looked_begins, nothing_missing, something_missing, looked_on, looked_free, looked_at_all}
use Rattle.hanging.proofs.least_free.Goals as goal

pub loop-rest-init : goal.loop-rest-init
loop-rest-init c = looked_begins c.args.before.now c.args.left

pub bounds-before-y : goal.bounds-before-y
bounds-before-y c = omega (arith, c.lowest-y.ensures.room)

pub returns-then-common-eq0 : goal.returns-then-common-eq0
returns-then-common-eq0 c = record {
  room = c.lowest-y.ensures.room;
  least =
      looked_free c.loop-rest.invariant c.lowest-y.ensures
      (nothing_missing c.args.before.now c.args.left c.lowest-y.result c.common.result c.common.ensures c.if-common-eq0.true);
}

pub without_bit-rest-requires : goal.without_bit-rest-requires
without_bit-rest-requires c = c.lowest-y.ensures.room

pub loop-rest-smaller : goal.loop-rest-smaller
loop-rest-smaller c =
    counted_falls (bit c.loop-rest.rest) (bit c.without_bit-rest.result) c.lowest-y.result c.lowest-y.ensures.there
    c.without_bit-rest.ensures 64 c.lowest-y.ensures.room

pub loop-rest-preserved : goal.loop-rest-preserved
loop-rest-preserved c =
    looked_on c.loop-rest.invariant c.lowest-y.result
    (something_missing c.args.before.now c.args.left c.lowest-y.result c.common.result c.common.ensures c.if-common-eq0.false (omega arith))
    c.without_bit-rest.result c.without_bit-rest.ensures

pub returns : goal.returns
returns c = record { room = tt; least = looked_at_all c.loop-rest.invariant c.loop-rest-test.false }
