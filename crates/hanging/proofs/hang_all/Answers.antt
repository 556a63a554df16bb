-- `hanging::hang_all` meets its contract: the numbers of the word are settled one after another, and fewer are left each time.
-- Assumes nothing.
use mathlib.Core.Bool.{false≢true}
use mathlib.Core.Path.{sym, ap, ◌∙◌}
use Rattle.bits.specs.Bits.{bit}
use Rattle.bits.proofs.Words.{bit_zero}
use Rattle.bits.proofs.Counted.{counted_falls}
use Rattle.hanging.proofs.Settling.{settled_begins, settled_on, settled_all}
use Rattle.hanging.proofs.hang_all.Goals as goal

pub loop-rest-init : goal.loop-rest-init
loop-rest-init c =
    let a = c.args in
    (c.requires, settled_begins a.some a.before.now a.left a.ready a.hung.now)

pub without_bit-rest-requires : goal.without_bit-rest-requires
without_bit-rest-requires c = c.lowest-y.ensures.room

pub hang-free-requires : goal.hang-free-requires
hang-free-requires c =
    (c.lowest-y.ensures.room, c.loop-rest.invariant.0)

pub loop-rest-smaller : goal.loop-rest-smaller
loop-rest-smaller c =
    counted_falls (bit c.loop-rest.rest) (bit c.without_bit-rest.result) c.lowest-y.result c.lowest-y.ensures.there
    c.without_bit-rest.ensures 64 c.lowest-y.ensures.room

pub loop-rest-preserved : goal.loop-rest-preserved
loop-rest-preserved c =
    let inv = c.loop-rest.invariant in (
      c.hang-free.ensures.hung_len,
      settled_on inv.1 c.lowest-y.result c.lowest-y.ensures.there c.without_bit-rest.result c.without_bit-rest.ensures c.hang-free.ensures.hangs,
    )

pub returns : goal.returns
returns c =
    let inv = c.loop-rest.invariant in
    record { hung_len = inv.0; hangs = settled_all inv.1 (λ y h. false≢true (sym (bit_zero y) ∙ ap (λ n. bit n y) (sym c.loop-rest-test.false) ∙ h)) }
