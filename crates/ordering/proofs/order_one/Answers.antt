-- `ordering::order_one` meets its contract: the one that sets what the action leaves, and those that set what it wants, are put into its word.
-- Assumes nothing.
use Rattle.ordering.proofs.OneAction.{in_table_lem, setter_fits, marks}
use Rattle.ordering.proofs.order_one.Goals as goal

pub with_setter-first-requires : goal.with_setter-first-requires
with_setter-first-requires c =
    let (size, ranked, (t, i, turn)) = c.requires in
    (in_table_lem turn, ranked, setter_fits turn c.from.ensures c.variable_at-var.ensures.start)

pub returns-clause-orders_one : goal.returns-clause-orders_one
returns-clause-orders_one c = λ t i turn.
    marks turn c.from.ensures c.variable_at-var.ensures.start _ _ c.joined.result c.order_wanted.ensures.before_len
    c.requires.1 c.from-r.ensures c.with_setter-first.ensures
    (c.in_ok-word.ensures.orders_wanted t i turn.surveyed) c.joined.ensures
