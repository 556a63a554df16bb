-- `trail_call::replay_all` meets its contract: what is announced of the log, or came, is all of it.
-- Assumes nothing.
use Rattle.trail_call.proofs.Handed.{whole_log}
use Rattle.trail_call.proofs.replay_all.Goals as goal

pub returns : goal.returns
returns c =
    whole_log c.args.input.now c.args.n c.four_at.result _ _ c.replay_first.result c.four_at.ensures.1
    c.replay_first.ensures
