-- What holds at each turn of `rostering::tasks`.
-- Assumes nothing.
use mathlib.Core.Path.{◌≡◌}
use mathlib.Core.Bool.{true}
use mathlib.Core.List.{List}
use Prim.Native.Nat.{ℕ, ◌-◌, ◌≤◌, ◌<◌}
use lib.Dec.{ltb}
use lib.ListN.{length}
use Rattle.study.specs.Reading.{may_follow_lem}
use Rattle.tables.specs.Tables.{ActionTables, tables}
use Rattle.tables.specs.Rows.{count_column}
use Rattle.standing.specs.Reads.{Safe}
use Rattle.standing.specs.Halfway.{Halfway}
use Rattle.rostering.proofs.tasks.Given as goal

abbrev pub invariant-loop-p : goal.invariant-loop-p
invariant-loop-p l =
    (Safe l.file l.p (count_column l.rows) × (l.initial.p.at ≤ l.p.at))
    × ((l.p.tasks < l.p.vars → may_follow_lem (ltb l.p.tasks l.p.vars) l.p.last 4 ≡ true)
    × ((acts : ActionTables) (starts goals begins : List ℕ)
    → Halfway l.file (tables (count_column l.rows) acts starts goals) begins l.initial.p
    → Halfway l.file (tables (count_column l.rows) acts starts goals) begins l.p))

abbrev pub decreases-loop-p : goal.decreases-loop-p
decreases-loop-p l = length l.file - l.p.at
