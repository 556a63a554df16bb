-- `replaying::replay` meets its contract: its tables are as long as their types say, so what is loaded is what the file says to the crew.
-- Assumes nothing.
use Rattle.tables.proofs.Fresh.{fresh_sized}
use Rattle.replaying.proofs.Answers.{file_refused}
use Rattle.replaying.proofs.replay.Goals as goal

pub load_for-requires : goal.load_for-requires
load_for-requires c = fresh_sized

pub returns-in-Ok : goal.returns-in-Ok
returns-in-Ok c = c.replay_loaded.ensures _ _ (rw c.in-Ok.is at c.load_for.ensures)

pub returns-in-Err : goal.returns-in-Err
returns-in-Err c = file_refused _ _ _ _ (rw c.in-Err.is at c.load_for.ensures) c.from.ensures
