-- `survey::print` keeps within its buffer: a report that was made lies in it.
-- Assumes nothing.
use mathlib.Core.Path.{sym}
use native.Mathlib.Omega.{arith}
use lib.Seq.{length-take-le}
use Rattle.survey_call.proofs.Handed.{report_fits}
use Rattle.survey.proofs.print.Goals as goal

pub slice_bounds-report-end : goal.slice_bounds-report-end
slice_bounds-report-end c =
    omega (arith, report_fits _ _ _ _ _ _ _ c.if-answer-ne0.false c.survey-answer.ensures, c.survey-answer.auto.report)

pub slice_bounds-write_all-end-3 : goal.slice_bounds-write_all-end-3
slice_bounds-write_all-end-3 c =
    sym (length-take-le c.survey-answer.result.first c.survey-answer.new.report
    (omega (arith, report_fits _ _ _ _ _ _ _ c.if-answer-ne0.false c.survey-answer.ensures, c.survey-answer.auto.report)))
