-- What holds at each turn of `ranking::test`.
-- Assumes nothing.
use Rattle.ranking.proofs.Marks.{Marked}
use Rattle.ranking.proofs.test.Given as goal

abbrev pub invariant-loop-k : goal.invariant-loop-k
invariant-loop-k l = Marked l.ranks l.actions l.k l.met
