-- What holds at each turn of `skimming::actions`.
-- Assumes nothing.
use mathlib.Core.Path.{◌≡◌}
use mathlib.Core.Bool.{true}
use mathlib.Core.List.{List}
use Prim.Native.Nat.{ℕ, ◌-◌, ◌≤◌}
use lib.Dec.{ltb}
use lib.ListN.{length}
use Rattle.study.specs.Reading.{may_follow_lem}
use Rattle.tables.specs.Rows.{count_column, seen_all}
use Rattle.standing.specs.Reads.{Safe}
use Rattle.standing.specs.Halfway.{Halfway}
use Rattle.skimming.proofs.actions.Given as goal

abbrev pub invariant-loop-p : goal.invariant-loop-p
invariant-loop-p l =
    (Safe l.file l.p (count_column l.rows) × (l.initial.p.at ≤ l.p.at))
    × ((may_follow_lem (ltb l.p.tasks l.p.vars) l.p.last 2 ≡ true)
    × ((setters begins : List ℕ) → Halfway l.file (seen_all l.initial.acts l.rows setters) begins l.initial.p → Halfway l.file (seen_all l.acts l.rows setters) begins l.p))

abbrev pub decreases-loop-p : goal.decreases-loop-p
decreases-loop-p l = length l.file - l.p.at
