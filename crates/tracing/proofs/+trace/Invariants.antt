-- A trace ends: what falls is how many more values may be passed.
-- Assumes nothing.
use Rattle.tracing.proofs.+trace.Given as goal

abbrev pub decreases-trace : goal.decreases-trace
decreases-trace l = l.left
