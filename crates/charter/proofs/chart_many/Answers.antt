-- `charter::chart_many` meets its contract: there is no plan and every chart is answered so, or there is one and the chart is vetted.
-- Assumes nothing.
use mathlib.Core.Path.{refl}
use Rattle.bits.proofs.Members.{fresh_empty}
use Rattle.charts.specs.Charts.{chart_of}
use Rattle.charter.proofs.chart_many.Goals as goal

pub ready_many-requires : goal.ready_many-requires
ready_many-requires c = (refl, fresh_empty 4, c.requires)

pub returns-in-Err : goal.returns-in-Err
returns-in-Err c t x known = c.in-Err.ensures.charts t x known (chart_of _ _)

pub vet-requires : goal.vet-requires
vet-requires c =
    let (t, x, known) = c.requires in
    (c.ready_many.ensures.members_len, (t, x, known, (c.in-Ok.ensures.plannable t x known).0))

pub returns-in-Ok : goal.returns-in-Ok
returns-in-Ok c t x known =
    let (plannable, walks) = c.in-Ok.ensures.plannable t x known in
    c.vet.ensures t x known plannable walks
