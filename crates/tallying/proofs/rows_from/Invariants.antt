-- What holds at each turn of `tallying::rows_from`.
-- Assumes nothing.
use Rattle.tallying.proofs.Filling.{FilledTo}
use Rattle.tallying.proofs.rows_from.Given as goal

abbrev pub invariant-loop-p : goal.invariant-loop-p
invariant-loop-p l = FilledTo l.kept 0 64 l.len l.n l.actions l.initial.report l.p l.report
