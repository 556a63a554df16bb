-- What holds at each turn of `ringing::wants`.
-- Assumes nothing.
use Prim.Native.Nat.{◌+◌, ◌*◌}
use Rattle.ringing.proofs.Asking.{Asking}
use Rattle.ringing.proofs.wants.Given as goal

abbrev pub invariant-loop-k : goal.invariant-loop-k
invariant-loop-k l = Asking l.file l.act.place l.act.many l.v l.q (l.act.place + 3 * l.k) l.k
