-- What holds at each turn of `opening::unwant`.
-- Assumes nothing.
use Rattle.opening.specs.Opening.{Joined, Freed}
use Rattle.opening.proofs.Lowering.{Lowering}
use Rattle.opening.proofs.unwant.Given as goal

abbrev pub invariant-loop-k : goal.invariant-loop-k
invariant-loop-k l =
    Lowering l.file l.place l.many l.initial.wants l.wants l.k × Joined (Freed l.file l.place l.k l.ranks l.steps l.wants) l.initial.opened l.opened
