-- What holds at each turn of `rostering::crews`.
-- Assumes nothing.
use mathlib.Core.List.{List}
use Prim.Native.Nat.{ℕ, ◌-◌, ◌≤◌}
use lib.ListN.{length}
use Rattle.tables.specs.Tables.{ActionTables, tables}
use Rattle.tables.specs.Rows.{count_column}
use Rattle.advancing.specs.declared.Progress.{Progress}
use Rattle.standing.specs.Reads.{Safe}
use Rattle.standing.specs.Halfway.{Halfway}
use Rattle.rostering.proofs.crews.Given as goal

-- the file has been read from one place to another, whatever the tables of actions, starts and goals are
abbrev pub ReadTo : List ℕ → List ℕ → List ℕ → Progress → List ℕ → Progress → Type 0
ReadTo file counts begins₀ p₀ begins p =
    (Safe file p counts × (p₀.at ≤ p.at))
    × ((acts : ActionTables) (starts goals : List ℕ)
    → Halfway file (tables counts acts starts goals) begins₀ p₀
    → Halfway file (tables counts acts starts goals) begins p)

abbrev pub invariant-loop-p : goal.invariant-loop-p
invariant-loop-p l = ReadTo l.file (count_column l.rows) l.initial.begins l.initial.p l.begins l.p

abbrev pub decreases-loop-p : goal.decreases-loop-p
decreases-loop-p l = length l.file - l.p.at
