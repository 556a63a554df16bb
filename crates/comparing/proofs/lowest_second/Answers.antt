-- `comparing::lowest_second` meets its contract: the members are tried from the lowest on.
-- Assumes nothing.
use mathlib.Core.Path.{sym, ◌∙◌}
use Rattle.bits.specs.Bits.{bit}
use Rattle.bits.proofs.Counted.{counted_falls}
use Rattle.comparing.proofs.Wanting.{none_begins, none_on, none_found, none_ends}
use Rattle.comparing.proofs.lowest_second.Goals as goal

pub loop-rest-init : goal.loop-rest-init
loop-rest-init c = none_begins c.args.members c.args.words.now c.args.ties.now c.args.x

pub holds-requires : goal.holds-requires
holds-requires c = c.requires.0

pub returns-then-holds : goal.returns-then-holds
returns-then-holds c =
    none_found c.args.members c.args.words.now c.args.ties.now c.args.x c.loop-rest.invariant c.lowest-y.ensures
    c.without.result c.without.ensures (sym c.holds.ensures ∙ c.if-holds.true)

pub without_bit-rest-requires : goal.without_bit-rest-requires
without_bit-rest-requires c = c.lowest-y.ensures.room

pub loop-rest-smaller : goal.loop-rest-smaller
loop-rest-smaller c =
    counted_falls (bit c.loop-rest.rest) (bit c.without_bit-rest.result) c.lowest-y.result c.lowest-y.ensures.there
    c.without_bit-rest.ensures 64 c.lowest-y.ensures.room

pub loop-rest-preserved : goal.loop-rest-preserved
loop-rest-preserved c =
    none_on c.args.members c.args.words.now c.args.ties.now c.args.x c.loop-rest.invariant c.lowest-y.ensures
    c.without.result c.without.ensures (sym c.holds.ensures ∙ c.if-holds.false) c.without_bit-rest.result c.without_bit-rest.ensures

pub returns : goal.returns
returns c =
    absurd (none_ends c.args.members c.args.words.now c.args.ties.now c.args.x c.loop-rest.invariant c.loop-rest-test.false c.requires.1)
