-- `tables::in_force` meets its contract: an action is out of force where its row has 64 more.
-- Assumes nothing.
use Rattle.tables.proofs.Columns.{in_force_row}
use Rattle.tables.proofs.in_force.Goals as goal

pub returns : goal.returns
returns c = in_force_row _ _
