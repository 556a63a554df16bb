-- `renaming::renamed` meets its contract: each turn puts the lowest of the rest under its rank.
-- Assumes nothing.
use Rattle.bits.specs.Bits.{bit}
use Rattle.bits.proofs.Counted.{counted_falls}
use Rattle.renaming.proofs.Words.{renamed_begins, renamed_on, renamed_ends}
use Rattle.renaming.proofs.renamed.Goals as goal

pub loop-rest-init : goal.loop-rest-init
loop-rest-init c = renamed_begins _ _

pub without_bit-rest-requires : goal.without_bit-rest-requires
without_bit-rest-requires c = c.lowest-i.ensures.room

pub bounds-ranks-i : goal.bounds-ranks-i
bounds-ranks-i c =
    c.requires.0 _ (c.loop-rest.invariant.rest_of _ c.lowest-i.ensures.there)

pub with_bit-under-requires : goal.with_bit-under-requires
with_bit-under-requires c =
    c.requires.1 _ (c.requires.0 _ (c.loop-rest.invariant.rest_of _ c.lowest-i.ensures.there))

pub loop-rest-smaller : goal.loop-rest-smaller
loop-rest-smaller c =
    counted_falls (bit c.loop-rest.rest) (bit c.without_bit-rest.result) c.lowest-i.result c.lowest-i.ensures.there
    c.without_bit-rest.ensures 64 c.lowest-i.ensures.room

pub loop-rest-preserved : goal.loop-rest-preserved
loop-rest-preserved c =
    renamed_on c.loop-rest.invariant c.lowest-i.result _ _ c.lowest-i.ensures.there c.without_bit-rest.ensures c.with_bit-under.ensures

pub returns : goal.returns
returns c = renamed_ends c.loop-rest.invariant c.loop-rest-test.false
