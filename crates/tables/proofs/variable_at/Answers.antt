-- `tables::variable_at` meets its contract: what the row holds is what the columns hold.
-- Assumes nothing.
use Rattle.tables.proofs.Columns.{opens_variable}
use Rattle.tables.proofs.variable_at.Goals as goal

pub returns : goal.returns
returns c = rw c.opened_variable.ensures (opens_variable _ _)
