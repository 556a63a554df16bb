-- `linking::join` meets its contract: the words are joined one after another.
-- Assumes nothing.
use native.Mathlib.Omega.{arith}
use Rattle.linking.proofs.Sets.{joined_begins, joined_on, joined_all, all_passed}
use Rattle.linking.proofs.join.Goals as goal

pub loop-q-init : goal.loop-q-init
loop-q-init c = joined_begins c.args.other.now c.args.set.now c.requires.0

pub loop-q-preserved : goal.loop-q-preserved
loop-q-preserved c = joined_on c.loop-q.invariant (omega arith) c.joined.result c.joined.ensures

pub returns : goal.returns
returns c =
    joined_all c.requires.1 c.requires.0 (rw (all_passed c.loop-q.q (omega arith) (omega arith)) at c.loop-q.invariant)
