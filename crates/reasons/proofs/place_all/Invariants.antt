-- What holds at each turn of `reasons::place_all`.
-- Assumes nothing.
use Rattle.reasons.proofs.Positions.{PlacedSoFar}
use Rattle.reasons.proofs.place_all.Given as goal

abbrev pub invariant-loop-k : goal.invariant-loop-k
invariant-loop-k l = PlacedSoFar l.plan l.places l.k
