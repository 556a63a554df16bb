-- What holds at each turn of `scribing::put_conditions`: the bytes from the next condition on are left to put.
-- Assumes nothing.
use Prim.Native.Nat.{◌*◌}
use Rattle.putting.proofs.Putting.{Left}
use Rattle.putting.proofs.Entries.{conditions_from}
use Rattle.scribing.proofs.put_conditions.Given as goal

abbrev pub invariant-loop-var : goal.invariant-loop-var
invariant-loop-var l = Left (conditions_from l.conditions 0) l.begin l.initial.file (conditions_from l.conditions (2 * l.var-index)) l.at l.file
