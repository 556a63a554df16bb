-- `stepping::mark_starts` meets its contract. The loop's invariant: the values of the variables before v are marked.
-- Assumes nothing.
use native.Mathlib.Omega.{arith}
use Rattle.stepping.proofs.Marks.{begun_more, begun_all}
use Rattle.stepping.proofs.mark_starts.Goals as goal

pub loop-v-preserved : goal.loop-v-preserved
loop-v-preserved c = begun_more c.loop-v.invariant c.with.result (omega arith) c.with.ensures

pub returns : goal.returns
returns c = begun_all c.loop-v.invariant (omega arith)
