-- `finding::wanted_value` meets its contract: each turn passes one condition and keeps `Seeking`.
-- Assumes nothing.
use Rattle.finding.proofs.Seeking.{finds, misses}
use Rattle.finding.proofs.wanted_value.Goals as goal

pub returns-then-file-at : goal.returns-then-file-at
returns-then-file-at c = finds c.loop-k.invariant c.loop-k-test.true c.if-file-at.true

pub returns : goal.returns
returns c = λ t i stand q wants. absurd (misses c.loop-k.invariant c.loop-k-test.false t i stand q wants)
