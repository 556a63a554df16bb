-- What holds at each turn of `linking::least_outside`.
-- Assumes nothing.
use Prim.Native.Nat.{◌*◌}
use Rattle.linking.proofs.Sets.{CoveredTo}
use Rattle.linking.proofs.least_outside.Given as goal

abbrev pub invariant-loop-q : goal.invariant-loop-q
invariant-loop-q l = CoveredTo l.set l.other (64 * l.q)
