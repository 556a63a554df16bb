-- What holds at each turn of `listing::lowest_amiss`.
-- Assumes nothing.
use Rattle.listing.proofs.Gathering.{GatheredBy}
use Rattle.listing.proofs.lowest_amiss.Given as goal

abbrev pub invariant-loop-i : goal.invariant-loop-i
invariant-loop-i g l = GatheredBy l.list (g.S.ActionSet.has l.listed) (g.S.ActionSet.has l.amiss) l.i-index
