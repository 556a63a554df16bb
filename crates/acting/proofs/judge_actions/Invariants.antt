-- What holds at each turn of `acting::judge_actions`.
-- Assumes nothing.
use Prim.Native.Nat.{ℕ, ◌+◌, ◌-◌, ◌*◌, ◌≤◌}
use mathlib.Core.List.{List, ◌++◌}
use lib.ListN.{length, drop}
use Rattle.study.specs.Reading.{Record}
use Rattle.tables.specs.Rows.{count_column}
use Rattle.standing.specs.Reads.{Bounds}
use Rattle.spelling.specs.Lists.{action_records}
use Rattle.spelling.specs.Lent.{actions_in, conditions_in}
use Rattle.drafts.specs.Drafts.{ActionsGoOn, Drafted}
use Rattle.acting.proofs.judge_actions.Given as goal

abbrev pub invariant-loop-i : goal.invariant-loop-i
invariant-loop-i l =
    Bounds l.p (count_column l.rows)
    × ((ActionsGoOn l.p.last × (l.i ≤ length l.actions) × (l.used ≤ length l.conditions) × (l.i ≤ 5 * l.p.actions))
    × ((file : List ℕ) (rest : List Record)
    → Drafted file (count_column l.rows) l.initial.p (action_records (actions_in l.actions (conditions_in l.conditions)) ++ rest)
    → Drafted file (count_column l.rows) l.p (action_records (actions_in (drop l.i l.actions) (conditions_in (drop l.used l.conditions))) ++ rest)))

abbrev pub decreases-loop-i : goal.decreases-loop-i
decreases-loop-i l = length l.actions - l.i
