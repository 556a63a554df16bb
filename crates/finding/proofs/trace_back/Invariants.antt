-- What holds at each turn of `finding::trace_back`.
-- Assumes nothing.
use Rattle.finding.proofs.Backward.{Backward}
use Rattle.finding.proofs.trace_back.Given as goal

abbrev pub invariant-loop-turn : goal.invariant-loop-turn
invariant-loop-turn l =
    Backward l.v l.goal l.actions l.setters l.acts l.facts l.n l.passed l.q l._turn
