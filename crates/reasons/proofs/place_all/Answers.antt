-- `reasons::place_all` meets its contract: each turn writes where one more of the plan's actions stands, over none before.
-- Assumes nothing.
use Rattle.reasons.proofs.Positions.{all_placed}
use Rattle.reasons.proofs.place_all.Goals as goal

pub returns : goal.returns
returns c = all_placed c.loop-k.invariant c.loop-k-test.false
