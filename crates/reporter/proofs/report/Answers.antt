-- `reporter::report` meets its contract: what is loaded is what the file says to the crew, the seeds are judged, and the tables are given to what reports.
-- Assumes nothing.
use mathlib.Core.Path.{refl}
use Rattle.tables.proofs.Fresh.{fresh_sized}
use Rattle.planner.proofs.Loading.{loaded_known}
use Rattle.reporter.proofs.Judging.{seeds_refused, seeds_fine, at_least_one, at_most_64, from_the_first, to_the_last, report_on_fine}
use Rattle.reporter.proofs.report.Goals as goal

pub load_for-requires : goal.load_for-requires
load_for-requires c = fresh_sized

pub returns-in-Err : goal.returns-in-Err
returns-in-Err c =
    let said = rw c.in-Err.is at c.load_for.ensures in
    rw said (c.from.ensures, refl)

pub returns-in-Err-judged : goal.returns-in-Err-judged
returns-in-Err-judged c =
    let (t, said, holds) = rw c.in-Ok.is at c.load_for.ensures in
    rw said (seeds_refused t _ _ _ c.in-Err-judged.ensures.0 c.in-Err-judged.ensures.1)

pub report_loaded-requires : goal.report_loaded-requires
report_loaded-requires c =
    let (t, said, holds) = rw c.in-Ok.is at c.load_for.ensures in
    let fine = seeds_fine _ _ c.in_default.ensures refl in (
      holds.sized.setters,
      from_the_first _ _ fine,
      at_least_one _ _ fine,
      at_most_64 _ _ fine,
      to_the_last _ _ fine,
      (t, _, loaded_known _ said holds),
    )

pub returns : goal.returns
returns c =
    let (t, said, holds) = rw c.in-Ok.is at c.load_for.ensures in
    rw said (report_on_fine _ _ (seeds_fine _ _ c.in_default.ensures refl) (c.report_loaded.ensures t _ (loaded_known _ said holds)))
