-- What holds at each turn of `choosing::count_held`.
-- Assumes nothing.
use Rattle.opening.specs.Conditions.{HoldUpTo}
use Rattle.choosing.proofs.count_held.Given as goal

abbrev pub invariant-loop-k : goal.invariant-loop-k
invariant-loop-k l = HoldUpTo l.file l.place l.state l.from → HoldUpTo l.file l.place l.state l.k
