-- `stranding::take_out` meets its contract: after each turn the set is without one more of those that were taken.
-- Assumes nothing.
use Rattle.std.proofs.Common.{arith}
use Rattle.stranding.proofs.Sets.{less_none, less_next, less_all}
use Rattle.stranding.proofs.take_out.Goals as goal

pub loop-action-init : goal.loop-action-init
loop-action-init c = (c.requires.2, less_none c.args.set.now)

pub loop-action-preserved : goal.loop-action-preserved
loop-action-preserved c = (c.remove.ensures.long, less_next _ c.args.set.now c.loop-action.action-index c.loop-action-test.true c.loop-action.invariant.1 c.remove.ensures)

pub returns : goal.returns
returns c = (c.loop-action.invariant.0, less_all c.args.room.now c.args.set.now c.loop-action.set c.args.n c.loop-action.action-index c.loop-action-test.false c.loop-action.invariant.1)
