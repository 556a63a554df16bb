-- What holds at each turn of `writing::put_tasks`: the bytes from the next task on are left to put.
-- Assumes nothing.
use Prim.Native.Nat.{◌*◌}
use Rattle.putting.proofs.Putting.{Left}
use Rattle.putting.proofs.Entries.{tasks_from}
use Rattle.writing.proofs.put_tasks.Given as goal

abbrev pub invariant-loop-var : goal.invariant-loop-var
invariant-loop-var l = Left (tasks_from l.tasks 0) l.begin l.initial.file (tasks_from l.tasks (3 * l.var-index)) l.at l.file
