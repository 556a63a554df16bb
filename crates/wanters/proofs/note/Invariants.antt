-- What holds at each turn of `wanters::note`.
-- Assumes nothing.
use Prim.Native.Nat.{◌+◌, ◌*◌}
use Rattle.wanters.proofs.OneAction.{Underway}
use Rattle.wanters.proofs.note.Given as goal

abbrev pub invariant-loop-k : goal.invariant-loop-k
invariant-loop-k l = Underway l.file l.i l.place l.many l.initial.wanters l.wanters (l.place + 3 * l.k) l.k
