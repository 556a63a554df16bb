-- What holds at each turn of `wanters::note_all`.
-- Assumes nothing.
use Rattle.tables.specs.Rows.{var_column, pre_column, place_column, many_column}
use Rattle.wanters.proofs.AllActions.{Underway}
use Rattle.wanters.proofs.note_all.Given as goal

abbrev pub invariant-loop-i : goal.invariant-loop-i
invariant-loop-i l =
    Underway l.file l.actions l.some (var_column l.acts) (pre_column l.acts) (place_column l.acts) (many_column l.acts) l.initial.wanters l.wanters l.i
