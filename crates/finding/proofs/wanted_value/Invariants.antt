-- What holds at each turn of `finding::wanted_value`.
-- Assumes nothing.
use Prim.Native.Nat.{◌+◌, ◌*◌}
use Rattle.finding.proofs.Seeking.{Seeking}
use Rattle.finding.proofs.wanted_value.Given as goal

abbrev pub invariant-loop-k : goal.invariant-loop-k
invariant-loop-k l = Seeking l.file l.place l.many l.u (l.place + 3 * l.k) l.k
