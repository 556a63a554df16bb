-- `varying::report_many` meets its contract: a condition off its walk bars every seed, else what is wanted is counted for all.
-- Assumes nothing.
use mathlib.Core.Path.{refl}
use Rattle.plain.proofs.Lists.{all_zeros}
use Rattle.varying.proofs.Once.{entered_wishes, entered_rowed, entered_met, off_comes}
use Rattle.varying.proofs.report_many.Goals as goal

pub want_all-met-requires : goal.want_all-met-requires
want_all-met-requires c =
    let (t, entered) = c.requires.3 in
    (refl, all_zeros 512, (t, entered_wishes entered))

pub returns-in_default : goal.returns-in_default
returns-in_default c =
    λ t entered.
    let off = rw c.in_default.is at (c.want_all-met.ensures.wants_all t (entered_wishes entered) (entered_rowed entered)) in
    c.all_refused.ensures t c.args.e.first _ entered.lawful (off_comes entered off _) refl

pub report_counted-requires : goal.report_counted-requires
report_counted-requires c =
    let (t, entered) = c.requires.3 in
    let met = rw c.in-Ok.is at (c.want_all-met.ensures.wants_all t (entered_wishes entered) (entered_rowed entered)) in
    (c.requires.0, c.want_all-met.ensures.wants_len, c.requires.1, c.requires.2, (t, entered_met entered _ met))

pub returns : goal.returns
returns c =
    λ t entered.
    let met = rw c.in-Ok.is at (c.want_all-met.ensures.wants_all t (entered_wishes entered) (entered_rowed entered)) in
    c.report_counted.ensures t (entered_met entered _ met)
