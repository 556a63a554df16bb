-- `renaming::rename_all` meets its contract: each turn puts the word of one member under its rank.
-- Assumes nothing.
use mathlib.Core.Path.{◌∙◌}
use native.Mathlib.Omega.{arith}
use lib.ListN.{length-set}
use Rattle.bits.specs.Bits.{bit}
use Rattle.bits.proofs.Counted.{counted_falls}
use Rattle.bits.proofs.Changed.{out_only, common_both}
use Rattle.renaming.proofs.Words.{reworded_begins, reworded_on, reworded_ends}
use Rattle.renaming.proofs.rename_all.Goals as goal

pub loop-rest-init : goal.loop-rest-init
loop-rest-init c = (c.requires.0, λ i h. h, λ empty. reworded_begins _ _ _ _ empty)

pub without_bit-rest-requires : goal.without_bit-rest-requires
without_bit-rest-requires c = c.lowest-i.ensures.room

pub offset_bounds-words-at : goal.offset_bounds-words-at
offset_bounds-words-at c = omega (arith, c.lowest-i.ensures.room)

pub bounds-words-at : goal.bounds-words-at
bounds-words-at c = c.lowest-i.ensures.room

pub bounds-ranks-at : goal.bounds-ranks-at
bounds-ranks-at c =
    c.requires.1 _ (c.loop-rest.invariant.1 _ c.lowest-i.ensures.there)

pub renamed-requires : goal.renamed-requires
renamed-requires c =
    (λ i h. c.requires.1 i (common_both _ _ _ c.common-before.ensures i h).1, c.requires.2)

pub bounds-under-rank : goal.bounds-under-rank
bounds-under-rank c =
    omega (arith, c.wide-rank.ensures.0, c.requires.2 _ (c.requires.1 _ (c.loop-rest.invariant.1 _ c.lowest-i.ensures.there)))

pub loop-rest-smaller : goal.loop-rest-smaller
loop-rest-smaller c =
    counted_falls (bit c.loop-rest.rest) (bit c.without_bit-rest.result) c.lowest-i.result c.lowest-i.ensures.there
    c.without_bit-rest.ensures 64 c.lowest-i.ensures.room

pub loop-rest-preserved : goal.loop-rest-preserved
loop-rest-preserved c =
    let inv = c.loop-rest.invariant in
    let member = inv.1 c.lowest-i.result c.lowest-i.ensures.there in
    let is_rank = c.wide-rank.ensures.0 in (
      length-set c.loop-rest.under c.wide-rank.result c.renamed.result ∙ inv.0,
      λ i h. inv.1 i (out_only c.lowest-i.result c.loop-rest.rest c.without_bit-rest.result c.without_bit-rest.ensures i h).1,
      λ empty.
          rw is_rank
          (reworded_on c.requires.1 c.requires.3 inv.1 (inv.2 empty) c.lowest-i.result c.without_bit-rest.result c.common-before.result c.renamed.result
          c.lowest-i.ensures.there (omega (arith, inv.0, c.requires.2 _ (c.requires.1 _ member))) c.without_bit-rest.ensures c.common-before.ensures c.renamed.ensures),
    )

pub renamed-requires-2 : goal.renamed-requires-2
renamed-requires-2 c = (c.requires.1, c.requires.2)

pub returns : goal.returns
returns c =
    record { under_len = (c.loop-rest.invariant.0, c.renamed-2.ensures); by_index = λ empty. reworded_ends c.requires.1 c.requires.3 c.loop-rest.invariant.1 (c.loop-rest.invariant.2 empty) c.loop-rest-test.false }
