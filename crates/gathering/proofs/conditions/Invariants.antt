-- What holds at each turn of `gathering::conditions`.
-- Assumes nothing.
use Prim.Native.Nat.{ℕ, ◌-◌, ◌≤◌}
use mathlib.Core.List.{List}
use lib.ListN.{length}
use Rattle.tables.specs.Tables.{ActionTables, tables}
use Rattle.tables.specs.Rows.{count_column}
use Rattle.advancing.specs.Steps.{with_many}
use Rattle.standing.specs.Reads.{Safe}
use Rattle.standing.specs.Halfway.{Halfway}
use Rattle.gathering.proofs.conditions.Given as goal

abbrev pub invariant-loop-p : goal.invariant-loop-p
invariant-loop-p l =
    Safe l.file l.p (count_column l.rows)
    × (((2 ≤ l.p.last) × (l.p.last ≤ 3) × (l.initial.p.at ≤ l.p.at))
    × ((acts : ActionTables) (starts goals begins : List ℕ)
    → Halfway l.file (tables (count_column l.rows) acts starts goals) begins l.initial.p
    → Halfway l.file (tables (count_column l.rows) (with_many acts (l.p.actions - 1) l.p.many) starts goals) begins l.p))

abbrev pub decreases-loop-p : goal.decreases-loop-p
decreases-loop-p l = length l.file - l.p.at
