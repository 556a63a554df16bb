-- `survey_call::survey` meets its contract: the file lies behind the head, within the input.
-- Assumes nothing.
use Rattle.survey_call.proofs.Handed.{handed}
use Rattle.survey_call.proofs.survey.Goals as goal

pub returns : goal.returns
returns c =
    handed c.args.input.now _ _ c.report.result _ c.file_end-end.result
    c.eight_at.result
    c.eight_at-2.result
    c.eight_at-3.result
    c.file_end-end.ensures.2
    c.eight_at.ensures
    c.eight_at-2.ensures
    c.eight_at-3.ensures
    c.report.ensures
