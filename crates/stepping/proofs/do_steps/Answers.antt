-- `stepping::do_steps` meets its contract: the values of the state are marked, so the steps stand at their first stage.
-- Assumes nothing.
use Rattle.stepping.proofs.Marks.{stage_first}
use Rattle.stepping.proofs.do_steps.Goals as goal

pub returns : goal.returns
returns c = λ t ready counted long. c.steps.ensures t ready (stage_first t counted long c.mark_starts.ensures)
