-- `sweeping::unwant` meets its contract: each turn lowers the entry of the next condition.
-- Assumes nothing.
use native.Mathlib.Omega.{arith}
use Rattle.opening.proofs.Lowering.{lowering_goes_on, lowering_ends}
use Rattle.sweeping.proofs.unwant.Goals as goal

pub loop-k-preserved : goal.loop-k-preserved
loop-k-preserved c =
    rw (c.from-in-loop-k.ensures, c.from-in-loop-k-2.ensures)
    (lowering_goes_on c.loop-k.invariant c.loop-k-test.true _ (omega (arith, c.from.ensures)))

pub returns : goal.returns
returns c = lowering_ends c.loop-k.invariant c.loop-k-test.false
