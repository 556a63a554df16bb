-- `lacking::weigh_setter` meets its contract: none sets a start for a walk, and another value is set by the one named.
-- Assumes nothing.
use Rattle.lacking.proofs.Weighing.{start_passed, setter_weighed}
use Rattle.lacking.proofs.weigh_setter.Goals as goal

pub returns-then-q-start : goal.returns-then-q-start
returns-then-q-start c = start_passed c.if-q-start.true

pub returns : goal.returns
returns c = setter_weighed c.if-q-start.false c.weighed.ensures
