-- What holds at each turn of `manning::judge_tasks`.
-- Assumes nothing.
use Prim.Native.Nat.{ℕ, ◌+◌, ◌-◌, ◌*◌, ◌≤◌}
use mathlib.Core.Path.{◌≡◌}
use mathlib.Core.List.{List, ◌++◌, map}
use lib.ListN.{length, drop}
use Rattle.study.specs.Reading.{Record}
use Rattle.tables.specs.Rows.{count_column}
use Rattle.standing.specs.Reads.{Bounds}
use Rattle.spelling.specs.Lists.{task_record}
use Rattle.spelling.specs.Lent.{unlent_errand, errands_in, first_of}
use Rattle.drafts.specs.Drafts.{TasksGoOn, Drafted}
use Rattle.manning.proofs.judge_tasks.Given as goal

abbrev pub invariant-loop-left : goal.invariant-loop-left
invariant-loop-left l =
    Bounds l.p (count_column l.rows)
    × ((TasksGoOn l.p.last × (l.i ≤ length l.tasks) × (l.i + 3 * l.left ≡ l.used + 3 * l.many))
    × ((file : List ℕ) (rest : List Record)
    → Drafted file (count_column l.rows) l.initial.p (map task_record (first_of unlent_errand l.many (errands_in (drop l.used l.tasks))) ++ rest)
    → Drafted file (count_column l.rows) l.p (map task_record (first_of unlent_errand l.left (errands_in (drop l.i l.tasks))) ++ rest)))

abbrev pub decreases-loop-left : goal.decreases-loop-left
decreases-loop-left l = l.left
