-- `tables::opened` meets its contract.
-- Assumes nothing.
use Rattle.tables.proofs.opened.Goals as goal

pub returns : goal.returns
returns c = rw c.place_of.ensures
