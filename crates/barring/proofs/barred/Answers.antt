-- `barring::barred` meets its contract: pre is tested before the conditions.
-- Assumes nothing.
use Rattle.barring.proofs.Searches.{lacks_pre, lacks_condition}
use Rattle.barring.proofs.barred.Goals as goal

pub returns-then-value-act : goal.returns-then-value-act
returns-then-value-act c =
    λ a g. lacks_pre g c.args.state.now _ c.wide.ensures.0 c.if-value-act.true

pub returns : goal.returns
returns c =
    λ a g.
    lacks_condition g c.wide-2.ensures.0 c.args.state.now _ c.wide.ensures.0 c.if-value-act.false c.failing.ensures
