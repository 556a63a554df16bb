-- `bits::least` meets its contract: the words passed are 0, and the lowest bit of the first that is not is the least member.
-- Assumes nothing.
use native.Mathlib.Omega.{arith}
use Rattle.bits.proofs.Members.{none_in_word, least_in_word}
use Rattle.bits.proofs.least.Goals as goal

pub returns-then-word-ne0 : goal.returns-then-word-ne0
returns-then-word-ne0 c = least_in_word c.args.set.now c.loop-q.q c.lowest.result (omega arith) c.loop-q.invariant c.lowest.ensures

pub loop-q-preserved : goal.loop-q-preserved
loop-q-preserved c = none_in_word c.args.set.now c.loop-q.q c.loop-q.invariant (omega arith)
