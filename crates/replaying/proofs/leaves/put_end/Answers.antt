-- `replaying::leaves::put_end` meets its contract: eight stores fill the last eight bytes.
-- Assumes nothing.
use mathlib.Core.List.{◌++◌}
use Rattle.replays.specs.Replay.{sum_bytes}
use Rattle.replaying.specs.Leaving.{told_bytes}
use Rattle.replaying.proofs.Records.{end_stored}
use Rattle.replaying.proofs.leaves.put_end.Goals as goal

pub returns : goal.returns
returns c =
    λ long. rw (← c.in_numbers-told.ensures) (end_stored c.args.bytes.now (sum_bytes c.args.one.sum ++ told_bytes c.in_numbers-told.result) 32 long)
