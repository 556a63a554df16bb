-- `add_unlike` of a set of 256 bits meets its contract: each turn passes one word.
-- Assumes nothing.
use native.Mathlib.Omega.{arith}
use Rattle.listing.proofs.Unlike.{none_passed, one_passed, all_passed}
use Rattle.listing.proofs.sets.ArrayU644ActionSet.add_unlike.Goals as goal

pub loop-q-init : goal.loop-q-init
loop-q-init c = none_passed (omega arith)

pub loop-q-preserved : goal.loop-q-preserved
loop-q-preserved c =
    one_passed c.without.result c.without-in-loop-q.result c.joined-unlike.result c.joined.result c.loop-q.invariant (omega arith)
    c.without.ensures c.without-in-loop-q.ensures c.joined-unlike.ensures c.joined.ensures

pub returns : goal.returns
returns c = all_passed c.loop-q.invariant (omega arith)
