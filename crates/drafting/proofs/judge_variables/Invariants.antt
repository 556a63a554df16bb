-- What holds at each turn of `drafting::judge_variables`.
-- Assumes nothing.
use Prim.Native.Nat.{ℕ, ◌-◌, ◌≤◌}
use mathlib.Core.List.{List, ◌++◌, map}
use lib.ListN.{length, drop}
use mathlib.Core.Path.{◌≡◌}
use Rattle.study.specs.Reading.{Record, variable}
use Rattle.tables.specs.Rows.{count_column}
use Rattle.standing.specs.Reads.{Bounds}
use Rattle.drafts.specs.Drafts.{VariablesGoOn, Drafted}
use Rattle.drafting.proofs.judge_variables.Given as goal

abbrev pub invariant-loop-i : goal.invariant-loop-i
invariant-loop-i l =
    Bounds l.p (count_column l.rows)
    × ((VariablesGoOn l.p.last × (1 ≤ l.i → (l.p.last ≡ 1) × (1 ≤ l.p.at)) × (l.i ≤ length l.variables))
    × ((file : List ℕ) (rest : List Record)
    → Drafted file (count_column l.initial.rows) l.initial.p (map variable l.variables ++ rest)
    → Drafted file (count_column l.rows) l.p (map variable (drop l.i l.variables) ++ rest)))

abbrev pub decreases-loop-i : goal.decreases-loop-i
decreases-loop-i l = length l.variables - l.i
