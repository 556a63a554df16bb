-- `tracing::outcome` meets its contract: each number says one thing.
-- Assumes nothing.
use borrow.Author.Tests.{lt-ltb, le-ltb, ne_eqb}
use native.Mathlib.Omega.{arith}
use Rattle.tracing.proofs.outcome.Goals as goal

pub returns-then-number-lt-BREAKS : goal.returns-then-number-lt-BREAKS
returns-then-number-lt-BREAKS c = rw (lt-ltb _ 32 c.if-number-lt-BREAKS.true)

pub returns-then-number-eq-ROUND : goal.returns-then-number-eq-ROUND
returns-then-number-eq-ROUND c = rw c.if-number-eq-ROUND.true

pub returns : goal.returns
returns c = rw (le-ltb c.args.number 32 (omega (arith, c.if-number-lt-BREAKS.false)), ne_eqb c.args.number 255 c.if-number-eq-ROUND.false)
