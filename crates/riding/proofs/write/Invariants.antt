-- What holds at each turn of `riding::write`.
-- Assumes nothing.
use Rattle.riding.proofs.Placing.{WrittenSoFar}
use Rattle.riding.proofs.write.Given as goal

abbrev pub invariant-loop-k : goal.invariant-loop-k
invariant-loop-k l = WrittenSoFar l.plan l.froms l.tos l.start l.initial.journeys l.journeys l.floor l.at l.k
