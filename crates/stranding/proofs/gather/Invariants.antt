-- What holds at each turn of `stranding::gather`.
-- Assumes nothing.
use Rattle.tables.specs.Rows.{var_column, pre_column, place_column, many_column}
use Rattle.stranding.proofs.Gathering.{Underway}
use Rattle.stranding.proofs.gather.Given as goal

abbrev pub invariant-loop-i : goal.invariant-loop-i
invariant-loop-i l =
    Underway l.actions (var_column l.acts) (pre_column l.acts) (place_column l.acts) (many_column l.acts) l.steps l.initial.set l.set l.i
