-- What holds at each turn of `tallying::rows_in_place`.
-- Assumes nothing.
use Rattle.tallying.proofs.Filling.{FilledTo}
use Rattle.tallying.proofs.rows_in_place.Given as goal

abbrev pub invariant-loop-p : goal.invariant-loop-p
invariant-loop-p l = FilledTo l.initial.report 5 l.actions l.len l.n l.actions l.initial.report l.p l.report
