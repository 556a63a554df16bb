-- `lacking::weigh_action` meets its contract: the order of what the action leaves is weighed, then those of its conditions.
-- Assumes nothing.
use Rattle.tables.specs.Rows.{start_column}
use Rattle.lacking.proofs.Wanted.{action_weighed}
use Rattle.lacking.proofs.weigh_action.Goals as goal

pub returns : goal.returns
returns c =
    let a = c.args in
    action_weighed (start_column a.vars.now) a.setters.now
    c.wide-v.ensures.0 c.wide.ensures.0 c.variable_at-var.ensures.start c.weigh_setter-set.ensures c.weigh_wanted.ensures
