-- What holds at each turn of `riding::count`.
-- Assumes nothing.
use Rattle.riding.proofs.Steps.{CountedSoFar}
use Rattle.riding.proofs.count.Given as goal

abbrev pub invariant-loop-action : goal.invariant-loop-action
invariant-loop-action l = CountedSoFar l.plan l.froms l.tos l.start l.floor l.many l.action-index
