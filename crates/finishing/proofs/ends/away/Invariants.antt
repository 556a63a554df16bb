-- What holds at each turn of `finishing::ends::away`.
-- Assumes nothing.
use mathlib.Core.Path.{◌≡◌}
use mathlib.Core.List.{List}
use lib.ListN.{drop}
use Rattle.study.specs.Study.{Task}
use Rattle.tables.specs.Tables.{HoldsTasks}
use Rattle.tables.specs.Rows.{start_column, goal_column}
use Rattle.runs.specs.Run.{away}
use Rattle.finishing.proofs.ends.away.Given as goal

abbrev pub invariant-loop-v : goal.invariant-loop-v
invariant-loop-v l =
    (tasks : List Task) → HoldsTasks l.n (start_column l.vars) (goal_column l.vars) tasks → away l.state l.v (drop l.v tasks) ≡ away l.state 0 tasks
