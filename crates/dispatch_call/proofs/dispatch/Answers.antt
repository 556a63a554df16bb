-- `dispatch_call::dispatch` meets its contract: the parts lie behind the head, each as long as announced or as came.
-- Assumes nothing.
use Rattle.dispatch_call.proofs.Handed.{handed}
use Rattle.dispatch_call.proofs.dispatch.Goals as goal

pub returns : goal.returns
returns c =
    handed c.args.input.now c.args.n c.file_end-end.result c.pair_at.result c.pair_at-2.result
    c.part_end-rides.result
    c.part_end-file.result
    c.file_end-end.ensures.2
    c.part_end-rides.ensures.0
    c.part_end-file.ensures.0
    c.part_end-rides.ensures.2
    c.part_end-file.ensures.2
    c.pair_at-3.result
    c.pair_at-4.result
    c.args.journeys.now
    c.journeys.result
    _
    c.pair_at.ensures.1
    c.pair_at-2.ensures.1
    c.pair_at-3.ensures.1
    c.pair_at-4.ensures.1
    c.journeys.ensures
