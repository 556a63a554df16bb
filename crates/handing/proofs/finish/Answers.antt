-- `handing::finish` meets its contract: what was taken greedily is all, and the first plan, or fewer, and there is a ring.
-- Assumes nothing.
use lib.ListN.{drop}
use Rattle.handing.proofs.Outcomes.{fewer_is_ring, all_in_room}
use Rattle.handing.proofs.finish.Goals as goal

pub returns-then-taken-total : goal.returns-then-taken-total
returns-then-taken-total c t ranks room sized ended =
    rw c.refusal.ensures (fewer_is_ring ended sized c.requires (drop 256 room) c.if-taken-total.true)

pub returns : goal.returns
returns c t ranks room sized ended =
    rw c.done.ensures (all_in_room ended sized c.requires c.if-taken-total.false)
