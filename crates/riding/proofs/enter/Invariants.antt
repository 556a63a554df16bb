-- What holds at each turn of `riding::enter`.
-- Assumes nothing.
use Rattle.std.proofs.Common.{◌≡◌}
use Rattle.riding.proofs.Entering.{EnteredSoFar}
use Rattle.riding.proofs.enter.Given as goal

abbrev pub invariant-loop-k : goal.invariant-loop-k
invariant-loop-k l =
    (goal.iterator-loop-k).can_next l.k-iterator × (goal.iterator-loop-k).is_finite l.k-iterator × (l.k-iterator.iter.size ≡ 3)
    × EnteredSoFar l.rides l.actions l.initial.tos l.froms l.tos l.k-iterator.iter.rest.now l.k-iterator.count
