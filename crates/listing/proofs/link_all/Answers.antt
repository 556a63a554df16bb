-- `listing::link_all` meets its contract: each turn passes one pair.
-- Assumes nothing.
use mathlib.Core.Path.{◌≡◌}
use Prim.Native.Nat.{◌/◌}
use native.Mathlib.Omega.{arith}
use lib.ListN.{length}
use Rattle.bits.proofs.Members.{not_both}
use Rattle.charts.specs.Charts.{pairs_of}
use Rattle.listing.proofs.Pairs.{length_pairs}
use Rattle.listing.proofs.Linking.{none_passed, breaks_off, goes_on, ends, rows_more, shaped_kept}
use Rattle.listing.proofs.link_all.Goals as goal

pub loop-k-init : goal.loop-k-init
loop-k-init c = (c.requires.0, none_passed (λ x y w. not_both w (c.requires.1 x y)))

pub returns-then-stray : goal.returns-then-stray
returns-then-stray c =
    let u = c.loop-k.invariant in
    record { shaped = u.0; there = omega (arith, length_pairs c.args.pairs.now); by_index = breaks_off u.1 (omega arith) (rw c.if-stray.true at c.stray.ensures.tells) }

pub add-requires : goal.add-requires
add-requires c =
    c.loop-k.invariant.0.fours _ c.wide.ensures.1

pub loop-k-preserved : goal.loop-k-preserved
loop-k-preserved c =
    let (shaped, passed) = c.loop-k.invariant in
    let rows = c.loop-k.rows in (
      shaped_kept rows c.wide.result _ c.wide.ensures.1 shaped c.add.ensures.long,
      goes_on passed (omega arith) (rw c.if-stray.false at c.stray.ensures.tells)
          (rw (← c.wide.ensures.0) (rows_more rows _ c.wide.result _ (omega (arith, c.wide.ensures.1, shaped.long)) c.add.ensures)),
    )

pub returns-then-pairs-eq1 : goal.returns-then-pairs-eq1
returns-then-pairs-eq1 c =
    let all : c.loop-k.k ≡ length c.args.pairs.now / 2 = omega arith in
    let u = c.loop-k.invariant in
    record { shaped = u.0; there = omega (arith, length_pairs c.args.pairs.now); by_index = rw all at (ends u.1 all) }

pub returns : goal.returns
returns c =
    let whole : c.loop-k.k ≡ length c.args.pairs.now / 2 = omega arith in
    let all : c.loop-k.k ≡ length (pairs_of c.args.pairs.now) = omega (arith, length_pairs c.args.pairs.now) in
    let u = c.loop-k.invariant in
    record { shaped = u.0; there = tt; by_index = rw all at (ends u.1 whole) }
