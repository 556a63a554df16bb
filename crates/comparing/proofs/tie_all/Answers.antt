-- `comparing::tie_all` meets its contract: each turn passes one pair.
-- Assumes nothing.
use mathlib.Core.Path.{◌≡◌, ◌∙◌}
use Prim.Native.Nat.{◌+◌, ◌*◌, ◌/◌, ◌<◌}
use native.Mathlib.Omega.{arith}
use lib.ListN.{length, get_or, length-set}
use Rattle.charts.specs.Charts.{pairs_of}
use Rattle.listing.proofs.Pairs.{length_pairs}
use Rattle.listing.proofs.Linking.{none_passed, breaks_off, goes_on, ends}
use Rattle.comparing.proofs.Tying.{ties_more}
use Rattle.comparing.proofs.tie_all.Goals as goal
use Rattle.comparing.proofs.tie_all.Goals.{Else-stray}

pub loop-k-init : goal.loop-k-init
loop-k-init c = (c.requires.0, none_passed c.requires.2)

-- the two are members, and so below 64
low : (n : Else-stray) → (get_or n.args.pairs.now (2 * n.loop-k.k) 0 < 64) × (get_or n.args.pairs.now (2 * n.loop-k.k + 1) 0 < 64)
low n =
    let (one, other) = n.stray.ensures.both_listed n.if-stray.false in
    (n.requires.1 _ one, n.requires.1 _ other)

pub returns-then-stray : goal.returns-then-stray
returns-then-stray c =
    let (long, passed) = c.loop-k.invariant in
    record { ties_len = long; there = omega (arith, length_pairs c.args.pairs.now); by_index = breaks_off passed (omega arith) (rw c.if-stray.true at c.stray.ensures.tells) }

pub bounds-ties-j : goal.bounds-ties-j
bounds-ties-j c = omega (arith, (low (goal.at.bounds-ties-j c).Else-stray).1)

pub with_bit-requires : goal.with_bit-requires
with_bit-requires c = (low (goal.at.with_bit-requires c).Else-stray).0

pub bounds-ties-j-in-loop-k : goal.bounds-ties-j-in-loop-k
bounds-ties-j-in-loop-k c = omega (arith, (low (goal.at.bounds-ties-j-in-loop-k c).Else-stray).1)

pub loop-k-preserved : goal.loop-k-preserved
loop-k-preserved c =
    let (long, passed) = c.loop-k.invariant in
    let ties = c.loop-k.ties in
    let few = (low (goal.at.loop-k-preserved c).Else-stray).1 in (
      length-set ties _ _ ∙ long,
      goes_on passed (omega arith) (rw c.if-stray.false at c.stray.ensures.tells) (ties_more ties _ _ _ few (omega arith) c.with_bit.ensures),
    )

pub returns-then-pairs-eq1 : goal.returns-then-pairs-eq1
returns-then-pairs-eq1 c =
    let all : c.loop-k.k ≡ length c.args.pairs.now / 2 = omega arith in
    let (long, passed) = c.loop-k.invariant in
    record { ties_len = long; there = omega (arith, length_pairs c.args.pairs.now); by_index = rw all at (ends passed all) }

pub returns : goal.returns
returns c =
    let whole : c.loop-k.k ≡ length c.args.pairs.now / 2 = omega arith in
    let all : c.loop-k.k ≡ length (pairs_of c.args.pairs.now) = omega (arith, length_pairs c.args.pairs.now) in
    let (long, passed) = c.loop-k.invariant in
    record { ties_len = long; there = tt; by_index = rw all at (ends passed whole) }
