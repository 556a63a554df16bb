-- `ending::not_there` meets its contract: the case of what was found says which refusal is due.
-- Assumes nothing.
use Rattle.ending.proofs.not_there.Goals as goal

pub returns-in-There : goal.returns-in-There
returns-in-There c = rw c.in-There.is

pub returns-in-Unknown : goal.returns-in-Unknown
returns-in-Unknown c = rw c.in-Unknown.is

pub returns-then-may_follow : goal.returns-then-may_follow
returns-then-may_follow c = rw (c.in-Cut.is, ← c.may_follow.ensures, c.if-may_follow.true)

pub returns-else-may_follow : goal.returns-else-may_follow
returns-else-may_follow c = rw (c.in-Cut.is, ← c.may_follow.ensures, c.if-may_follow.false)

pub returns-in-Ended : goal.returns-in-Ended
returns-in-Ended c = rw c.in-Ended.is
