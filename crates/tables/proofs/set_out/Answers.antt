-- `tables::set_out` meets its contract: the variables passed are at their starts.
-- Assumes nothing.
use native.Mathlib.Omega.{arith}
use Rattle.tables.proofs.Starts.{begins_more}
use Rattle.tables.proofs.set_out.Goals as goal

pub loop-v-preserved : goal.loop-v-preserved
loop-v-preserved c = begins_more c.loop-v.invariant (omega arith) c.variable_at.ensures.start
