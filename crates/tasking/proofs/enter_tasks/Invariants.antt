-- What holds at each turn of `tasking::enter_tasks`.
-- Assumes nothing.
use mathlib.Core.Path.{◌≡◌}
use lib.ListN.{length}
use Rattle.tables.specs.Rows.{count_column, start_column, goal_column}
use Rattle.tasking.proofs.Tasks.{Partly}
use Rattle.tasking.proofs.enter_tasks.Given as goal

abbrev pub invariant-loop-v : goal.invariant-loop-v
invariant-loop-v l =
    (length l.vars ≡ 32) × (count_column l.vars ≡ count_column l.initial.vars)
    × Partly l.file l.place l.v (start_column l.vars) (goal_column l.vars)
