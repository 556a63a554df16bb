-- What holds at each turn of `wanting::want_all`.
-- Assumes nothing.
use Rattle.tables.specs.Rows.{var_column, pre_column, place_column, many_column}
use Rattle.wanting.proofs.AllActions.{Underway}
use Rattle.wanting.proofs.want_all.Given as goal

abbrev pub invariant-loop-i : goal.invariant-loop-i
invariant-loop-i l =
    Underway l.file l.actions (var_column l.acts) (pre_column l.acts) (place_column l.acts) (many_column l.acts) l.steps l.wants l.i
