-- What holds at each turn of `lacking::weigh_wanted`.
-- Assumes nothing.
use Rattle.tables.specs.Rows.{start_column}
use Rattle.lacking.proofs.Wanted.{Underway}
use Rattle.lacking.proofs.weigh_wanted.Given as goal

abbrev pub invariant-loop-k : goal.invariant-loop-k
invariant-loop-k l =
    let act = l.fn.act in
    Underway l.file act.place act.many l.i (start_column l.vars) l.setters l.steps l.rows l.fn.from l.best l.k
