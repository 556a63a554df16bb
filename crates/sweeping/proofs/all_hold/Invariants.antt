-- What holds at each turn of `sweeping::all_hold`.
-- Assumes nothing.
use Rattle.opening.specs.Conditions.{HoldUpTo}
use Rattle.sweeping.proofs.all_hold.Given as goal

abbrev pub invariant-loop-k : goal.invariant-loop-k
invariant-loop-k l = HoldUpTo l.file l.act.place l.state l.k
