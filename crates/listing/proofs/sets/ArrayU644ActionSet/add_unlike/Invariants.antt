-- What holds at each turn of `add_unlike` of a set of 256 bits.
-- Assumes nothing.
use Rattle.listing.proofs.Unlike.{DifferSoFar}
use Rattle.listing.proofs.sets.ArrayU644ActionSet.add_unlike.Given as goal

abbrev pub invariant-loop-q : goal.invariant-loop-q
invariant-loop-q l = DifferSoFar l.one l.other l.initial.self l.self l.q
