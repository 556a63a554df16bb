-- What holds at each turn of `wanting::want`.
-- Assumes nothing.
use Rattle.wanting.proofs.OneAction.{Underway}
use Rattle.wanting.proofs.want.Given as goal

abbrev pub invariant-loop-k : goal.invariant-loop-k
invariant-loop-k l =
    Underway l.file l.place l.many l.steps l.initial.wants l.wants l.k
