-- What holds at each turn of `lacking::lowest`.
-- Assumes nothing.
use Rattle.lacking.proofs.AllActions.{Underway}
use Rattle.lacking.proofs.lowest.Given as goal

abbrev pub invariant-loop-i : goal.invariant-loop-i
invariant-loop-i l = Underway l.file l.actions l.acts l.vars l.setters l.steps l.rows l.best l.i
