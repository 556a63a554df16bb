-- What holds at each turn of `finding::walk_past`.
-- Assumes nothing.
use Rattle.finding.proofs.Following.{Following}
use Rattle.finding.proofs.walk_past.Given as goal

abbrev pub invariant-loop-turn : goal.invariant-loop-turn
invariant-loop-turn l =
    Following l.i l.u l.value l.start l.acts l.steps l.facts l.n l.q l._turn
