-- `telling::text::spaced` meets its contract: a space, then the number.
-- Assumes nothing.
use Rattle.telling.proofs.Placed.{then}
use Rattle.telling.proofs.text.spaced.Goals as goal

pub returns : goal.returns
returns c =
    then c.put-next.ensures c.number.ensures
