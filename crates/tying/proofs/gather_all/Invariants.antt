-- What holds at each turn of `tying::gather_all`.
-- Assumes nothing.
use Rattle.tying.proofs.Closing.{ClosedTo}
use Rattle.tying.proofs.gather_all.Given as goal

abbrev pub invariant-loop-k : goal.invariant-loop-k
invariant-loop-k l = ClosedTo l.room l.initial.words l.words l.k
