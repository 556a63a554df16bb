-- What holds at each turn of `tables::set_out`.
-- Assumes nothing.
use Rattle.tables.specs.Rows.{start_column, Begins}
use Rattle.tables.proofs.set_out.Given as goal

abbrev pub invariant-loop-v : goal.invariant-loop-v
invariant-loop-v l = Begins l.v (start_column l.vars) l.state
