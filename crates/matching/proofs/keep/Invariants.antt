-- What holds at each turn of `matching::keep`.
-- Assumes nothing.
use Rattle.matching.proofs.Keeping.{KeptTo}
use Rattle.matching.proofs.keep.Given as goal

abbrev pub invariant-loop-p : goal.invariant-loop-p
invariant-loop-p l = KeptTo l.entry-items l.k l.base l.stride l.len l.initial.region l.p l.region
