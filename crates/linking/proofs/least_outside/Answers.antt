-- `linking::least_outside` meets its contract: of the words passed the other set has all, and the first with one besides has the least.
-- Assumes nothing.
use native.Mathlib.Omega.{arith}
use Rattle.linking.proofs.Sets.{covered_word, outside_word}
use Rattle.linking.proofs.least_outside.Goals as goal

pub returns-then-word-ne0 : goal.returns-then-word-ne0
returns-then-word-ne0 c =
    outside_word c.args.set.now c.args.other.now c.loop-q.q c.without-word.result c.without-word.ensures (omega arith)
    c.loop-q.invariant c.lowest.result c.lowest.ensures

pub loop-q-preserved : goal.loop-q-preserved
loop-q-preserved c =
    covered_word c.args.set.now c.args.other.now c.loop-q.q c.without-word.result c.without-word.ensures c.loop-q.invariant (omega arith)
