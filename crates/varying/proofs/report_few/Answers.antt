-- `varying::report_few` meets its contract: a condition off its walk bars every seed, else what comes before what is known for all.
-- Assumes nothing.
use mathlib.Core.Path.{refl}
use Rattle.plain.proofs.Lists.{all_zeros}
use Rattle.varying.proofs.Once.{entered_orderable, entered_once, off_comes}
use Rattle.varying.proofs.report_few.Goals as goal

pub order_by_action-found-requires : goal.order_by_action-found-requires
order_by_action-found-requires c =
    let (t, entered) = c.requires.3 in
    (refl, c.requires.2, (t, entered_orderable entered))

pub returns-in_default : goal.returns-in_default
returns-in_default c =
    λ t entered.
    let off = rw c.in_default.is at (c.order_by_action-found.ensures.orders_by_action t (entered_orderable entered) (all_zeros 64)) in
    c.all_refused.ensures t c.args.e.first _ entered.lawful (off_comes entered off _) refl

pub report_ordered-requires : goal.report_ordered-requires
report_ordered-requires c =
    let (t, entered) = c.requires.3 in
    (c.requires.0, c.requires.1, c.requires.2, (t, entered_once entered (rw c.in-Ok.is at (c.order_by_action-found.ensures.orders_by_action t (entered_orderable entered) (all_zeros 64)))))

pub returns : goal.returns
returns c =
    λ t entered. c.report_ordered.ensures t (entered_once entered (rw c.in-Ok.is at (c.order_by_action-found.ensures.orders_by_action t (entered_orderable entered) (all_zeros 64))))
