-- What holds at each turn of `tracing::walk_all`.
-- Assumes nothing.
use Rattle.tables.specs.Rows.{var_column, pre_column, post_column, out_column, start_column, goal_column}
use Rattle.tracing.proofs.Rounds.{Underway}
use Rattle.tracing.proofs.walk_all.Given as goal

abbrev pub invariant-loop-v : goal.invariant-loop-v
invariant-loop-v l =
    Underway l.n l.actions l.setters (var_column l.acts) (pre_column l.acts) (post_column l.acts) (out_column l.acts) (start_column l.vars) (goal_column l.vars) l.initial.steps l.steps l.total l.v
