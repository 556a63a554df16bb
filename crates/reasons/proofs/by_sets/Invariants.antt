-- What holds at each turn of `reasons::by_sets`.
-- Assumes nothing.
use Prim.Native.Nat.{◌+◌, ◌*◌}
use Rattle.tables.specs.Rows.{start_column}
use Rattle.reasons.proofs.SetReasons.{Underway}
use Rattle.reasons.proofs.by_sets.Given as goal

abbrev pub invariant-loop-k : goal.invariant-loop-k
invariant-loop-k l =
    Underway l.file l.act.place l.act.many l.begin (start_column l.vars) l.setters l.places l.initial.facts l.facts l.n (l.act.place + 3 * l.k) l.k
