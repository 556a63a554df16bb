-- What holds at each turn of `sweeping::pass`.
-- Assumes nothing.
use Rattle.sweeping.proofs.Moved.{Passing}
use Rattle.sweeping.proofs.pass.Given as goal

abbrev pub invariant-loop-v : goal.invariant-loop-v
invariant-loop-v l = Passing l.file l.acts l.steps l.n l.initial.wants l.initial.state l.k l.v l.wants l.state
