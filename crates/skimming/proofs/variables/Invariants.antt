-- What holds at each turn of `skimming::variables`.
-- Assumes nothing.
use mathlib.Core.Path.{◌≡◌}
use mathlib.Core.Bool.{true}
use mathlib.Core.List.{List}
use Prim.Native.Nat.{ℕ, ◌-◌, ◌≤◌}
use lib.Dec.{ltb}
use lib.ListN.{length}
use Rattle.study.specs.Reading.{may_follow_lem}
use Rattle.tables.specs.Tables.{ActionTables}
use Rattle.tables.specs.Rows.{count_column}
use Rattle.standing.specs.Reads.{Safe}
use Rattle.standing.specs.Halfway.{Halfway, beside}
use Rattle.skimming.proofs.variables.Given as goal

abbrev pub invariant-loop-p : goal.invariant-loop-p
invariant-loop-p l =
    (Safe l.file l.p (count_column l.rows) × (l.initial.p.at ≤ l.p.at))
    × ((may_follow_lem (ltb l.p.tasks l.p.vars) l.p.last 1 ≡ true)
    × ((acts : ActionTables) (begins : List ℕ) → Halfway l.file (beside l.initial.rows acts) begins l.initial.p → Halfway l.file (beside l.rows acts) begins l.p))

abbrev pub decreases-loop-p : goal.decreases-loop-p
decreases-loop-p l = length l.file - l.p.at
