-- What holds at each turn of `stepping::mark_starts`.
-- Assumes nothing.
use Rattle.stepping.proofs.Marks.{Begun}
use Rattle.stepping.proofs.mark_starts.Given as goal

abbrev pub invariant-loop-v : goal.invariant-loop-v
invariant-loop-v l = Begun l.v l.held l.state
