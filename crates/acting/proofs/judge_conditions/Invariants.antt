-- What holds at each turn of `acting::judge_conditions`.
-- Assumes nothing.
use Prim.Native.Nat.{ℕ, ◌+◌, ◌-◌, ◌*◌, ◌≤◌}
use mathlib.Core.Path.{◌≡◌}
use mathlib.Core.List.{List, ◌++◌, map}
use lib.ListN.{length, drop}
use Rattle.study.specs.Reading.{Record}
use Rattle.tables.specs.Rows.{count_column}
use Rattle.standing.specs.Reads.{Bounds}
use Rattle.spelling.specs.Lists.{condition_record}
use Rattle.spelling.specs.Lent.{unlent_condition, conditions_in, first_of}
use Rattle.drafts.specs.Drafts.{Drafted}
use Rattle.acting.proofs.judge_conditions.Given as goal

abbrev pub invariant-loop-left : goal.invariant-loop-left
invariant-loop-left l =
    Bounds l.p (count_column l.rows)
    × (((2 ≤ l.p.last) × (l.p.last ≤ 3) × (l.i ≤ length l.conditions) × (l.i + 2 * l.left ≡ l.used + 2 * l.many) × (l.p.actions ≡ l.initial.p.actions))
    × ((file : List ℕ) (rest : List Record)
    → Drafted file (count_column l.rows) l.initial.p (map condition_record (first_of unlent_condition l.many (conditions_in (drop l.used l.conditions))) ++ rest)
    → Drafted file (count_column l.rows) l.p (map condition_record (first_of unlent_condition l.left (conditions_in (drop l.i l.conditions))) ++ rest)))

abbrev pub decreases-loop-left : goal.decreases-loop-left
decreases-loop-left l = l.left
