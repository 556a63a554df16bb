-- What holds at each turn of `sweeping::unwant`.
-- Assumes nothing.
use Rattle.opening.proofs.Lowering.{Lowering}
use Rattle.sweeping.proofs.unwant.Given as goal

abbrev pub invariant-loop-k : goal.invariant-loop-k
invariant-loop-k l = Lowering l.file l.act.place l.act.many l.initial.wants l.wants l.k
