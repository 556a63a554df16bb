-- `tables::action_at` meets its contract: what the row holds is what the columns hold.
-- Assumes nothing.
use Rattle.tables.proofs.Columns.{opens}
use Rattle.tables.proofs.action_at.Goals as goal

pub returns : goal.returns
returns c = rw c.opened.ensures (opens _ _)
