-- What holds at each turn of `sweeping::sweep`.
-- Assumes nothing.
use Prim.Native.Nat.{◌-◌}
use Rattle.sweeping.specs.Moving.{Moves}
use Rattle.sweeping.proofs.sweep.Given as goal

abbrev pub invariant-loop-k : goal.invariant-loop-k
invariant-loop-k l = Moves l.file l.acts l.steps l.n l.initial.wants l.initial.state l.k l.wants l.state

abbrev pub decreases-loop-k : goal.decreases-loop-k
decreases-loop-k l = l.total - l.k
