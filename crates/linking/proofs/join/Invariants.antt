-- What holds at each turn of `linking::join`.
-- Assumes nothing.
use Rattle.linking.proofs.Sets.{JoinedTo}
use Rattle.linking.proofs.join.Given as goal

abbrev pub invariant-loop-q : goal.invariant-loop-q
invariant-loop-q l = JoinedTo l.q l.other l.initial.set l.set
