-- What holds at each turn of `ringing::orders`.
-- Assumes nothing.
use Rattle.ringing.proofs.Circles.{Telling}
use Rattle.ringing.proofs.orders.Given as goal

abbrev pub invariant-loop-k : goal.invariant-loop-k
invariant-loop-k l = Telling l.file l.acts l.path l.from l.to l.facts l.n l.k
