-- What holds at each turn of `linking::gather`.
-- Assumes nothing.
use Rattle.linking.specs.Passing.{Joins}
use Rattle.linking.proofs.Gathering.{InFirst}
use Rattle.linking.proofs.gather.Given as goal

abbrev pub invariant-loop-q : goal.invariant-loop-q
invariant-loop-q l = Joins (InFirst l.word-items l.q) l.rows l.word-items l.all
