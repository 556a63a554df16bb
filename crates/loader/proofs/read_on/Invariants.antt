-- What holds at each turn of `loader::read_on`.
-- Assumes nothing.
use Prim.Native.Nat.{◌-◌}
use lib.ListN.{length}
use Rattle.tables.specs.Rows.{count_column, seen_all}
use Rattle.standing.specs.Reads.{Safe}
use Rattle.standing.specs.Halfway.{Halfway}
use Rattle.loader.proofs.read_on.Given as goal

abbrev pub invariant-loop-next : goal.invariant-loop-next
invariant-loop-next l =
    Safe l.file l.p (count_column l.vars)
    × (Halfway l.file (seen_all l.initial.acts l.initial.vars l.initial.setters) l.initial.crews l.initial.p → Halfway l.file (seen_all l.acts l.vars l.setters) l.crews l.p)

abbrev pub decreases-loop-next : goal.decreases-loop-next
decreases-loop-next l = length l.file - l.p.at
