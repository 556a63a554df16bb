-- `reasons::wanters_of` meets its contract: the numbers keep their value where they are widened.
-- Assumes nothing.
use Rattle.reasons.proofs.wanters_of.Goals as goal

pub returns : goal.returns
returns c = rw (c.wide.ensures.0, c.wide-2.ensures.0)
