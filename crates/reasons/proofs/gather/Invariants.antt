-- What holds at each turn of `reasons::gather`.
-- Assumes nothing.
use Rattle.reasons.proofs.Positions.{GatheredSoFar}
use Rattle.reasons.proofs.gather.Given as goal

abbrev pub invariant-loop-action : goal.invariant-loop-action
invariant-loop-action l = GatheredSoFar l.plan l.initial.some l.some l.action-index
