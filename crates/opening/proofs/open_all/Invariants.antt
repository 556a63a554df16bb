-- What holds at each turn of `opening::open_all`.
-- Assumes nothing.
use Rattle.opening.specs.Opening.{Joined, OpensBelow}
use Rattle.opening.proofs.open_all.Given as goal

abbrev pub invariant-loop-v : goal.invariant-loop-v
invariant-loop-v l = Joined (OpensBelow l.v l.ranks l.steps l.wants l.state) l.initial.opened l.opened
