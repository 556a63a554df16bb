-- What holds at each turn of `crewing::judge_crews`.
-- Assumes nothing.
use Prim.Native.Nat.{ℕ, ◌-◌, ◌≤◌}
use mathlib.Core.List.{List}
use lib.Dec.{eqb}
use lib.ListN.{length, drop}
use Rattle.tables.specs.Rows.{count_column}
use Rattle.standing.specs.Reads.{Bounds}
use Rattle.spelling.specs.Lists.{crew_records}
use Rattle.spelling.specs.Lent.{errands_in, crews_in}
use Rattle.drafts.specs.Drafts.{CrewGoesOn, crews_to_come, Drafted}
use Rattle.crewing.proofs.judge_crews.Given as goal

abbrev pub invariant-loop-i : goal.invariant-loop-i
invariant-loop-i l =
    Bounds l.p (count_column l.rows)
    × ((CrewGoesOn (eqb l.i 0) l.p.last × (l.i ≤ length l.crews) × (l.used ≤ length l.tasks))
    × ((file : List ℕ)
    → Drafted file (count_column l.rows) l.initial.p (crew_records (crews_in l.crews (errands_in l.tasks)))
    → Drafted file (count_column l.rows) l.p (crews_to_come l.i (crews_in (drop l.i l.crews) (errands_in (drop l.used l.tasks))))))

abbrev pub decreases-loop-i : goal.decreases-loop-i
decreases-loop-i l = length l.crews - l.i
