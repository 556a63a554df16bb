-- `sampling::count_many` meets its contract: the plans are kept in the rows, counted, and tallied there.
-- Assumes nothing.
use native.Mathlib.Omega.{arith}
use Rattle.keeping.proofs.Alike.{as_many_plans, actions_kept, headed_kept}
use Rattle.keeping.proofs.Writing.{figures_in_place}
use Rattle.sampling.proofs.count_many.Goals as goal

pub keep_many-requires : goal.keep_many-requires
keep_many-requires c =
    let (t, counted, first) = c.requires.5 in
    (c.requires.0, c.requires.1, c.requires.2, c.requires.3, c.requires.4, (t, counted))

pub rows_in_place-requires : goal.rows_in_place-requires
rows_in_place-requires c =
    let (t, counted, first) = c.requires.5 in
    let all = c.keep_many.ensures.kept_all t counted first in (
      c.requires.2.few,
      omega (arith, c.requires.2.few, c.requires.3),
      omega (arith, c.requires.4, c.report-2-1.given, c.report-1.given),
      actions_kept all counted.deeds.actions counted.orderly.lawful (headed_kept all c.head.ensures),
    )

pub returns : goal.returns
returns c =
    λ t counted first.
    let all = c.keep_many.ensures.kept_all t counted first in
    figures_in_place counted.deeds.actions c.requires.2.some all
    (c.different-different.ensures.by_index _ (as_many_plans all) all.kept)
    c.head.ensures
    c.keep_many.ensures.report_unchanged
    (c.rows_in_place.ensures _ (as_many_plans all) (headed_kept all c.head.ensures))
