-- What holds at each turn of `ordering::order_all`.
-- Assumes nothing.
use Rattle.ordering.proofs.AllActions.{Underway}
use Rattle.ordering.proofs.order_all.Given as goal

abbrev pub invariant-loop-i : goal.invariant-loop-i
invariant-loop-i l =
    Underway l.file l.ranks l.actions l.acts l.vars l.setters l.steps l.initial.before l.before l.members l.i
