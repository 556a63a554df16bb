-- What holds at each turn of `ordering::order_wanted`.
-- Assumes nothing.
use Rattle.tables.specs.Rows.{start_column}
use Rattle.ordering.proofs.Wanted.{Underway}
use Rattle.ordering.proofs.order_wanted.Given as goal

abbrev pub invariant-loop-k : goal.invariant-loop-k
invariant-loop-k l =
    Underway l.file l.act.place l.act.many l.rank l.ranks (start_column l.vars) l.setters l.steps l.initial.before l.before l.initial.word l.word l.k
