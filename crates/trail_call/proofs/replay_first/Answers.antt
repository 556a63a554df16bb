-- `trail_call::replay_first` meets its contract: log and file lie behind the head, the log as long as announced or as came, and cut.
-- Assumes nothing.
use Rattle.trail_call.proofs.Handed.{handed}
use Rattle.trail_call.proofs.replay_first.Goals as goal

pub returns : goal.returns
returns c =
    handed c.args.input.now c.args.n c.file_end-end.result c.four_at.result c.part_end-file.result
    c.args.len
    c.part_end-cut.result
    c.file_end-end.ensures.2
    c.part_end-file.ensures.0
    c.part_end-file.ensures.2
    c.part_end-cut.ensures.2
    c.eight_at.result
    _
    _
    c.replay.result
    c.four_at.ensures.1
    c.eight_at.ensures
    c.replay.ensures
