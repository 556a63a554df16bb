-- What holds at each turn of `writing::put_crews`: the bytes from the next crew on are left to put, with the tasks that no crew has taken yet.
-- Assumes nothing.
use mathlib.Core.Path.{◌≡◌}
use mathlib.Core.List.{List}
use Prim.Native.Nat.{ℕ, ◌+◌, ◌*◌}
use lib.ListN.{length, drop}
use Rattle.spelling.specs.Spelling.{spelled}
use Rattle.spelling.specs.Lists.{crew_records}
use Rattle.spelling.specs.Lent.{errands_in, crews_in, tasks_announced}
use Rattle.putting.proofs.Putting.{Left}
use Rattle.putting.proofs.Entries.{crews_from}
use Rattle.writing.proofs.put_crews.Given as goal

abbrev pub whole : List ℕ → List ℕ → List ℕ
whole crews tasks = spelled (crew_records (crews_in crews (errands_in tasks)))

abbrev pub invariant-loop-k : goal.invariant-loop-k
invariant-loop-k l = record {
  taken : l.used + 3 * tasks_announced (drop (5 * l.k) l.crews) ≡ length l.tasks;
  left : Left (whole l.crews l.tasks) l.begin l.initial.file (crews_from l.crews l.tasks (5 * l.k) l.used) l.at l.file;
}
