-- `reasons::gather` meets its contract: each turn puts one more of the plan's actions into the set.
-- Assumes nothing.
use Rattle.reasons.proofs.Positions.{none_gathered, one_gathered}
use Rattle.reasons.proofs.gather.Goals as goal

pub loop-action-init : goal.loop-action-init
loop-action-init c = none_gathered c.requires

pub loop-action-preserved : goal.loop-action-preserved
loop-action-preserved c = one_gathered c.loop-action.invariant c.loop-action-test.true c.add.ensures
