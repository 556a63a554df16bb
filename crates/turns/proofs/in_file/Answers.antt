-- `turns::in_file` meets its contract: its tables are as long as their types say, so what is read is what the file says.
-- Assumes nothing.
use mathlib.Core.Path.{refl}
use Rattle.tables.proofs.Fresh.{fresh_sized}
use Rattle.turns.proofs.in_file.Goals as goal

pub returns-in-Ok : goal.returns-in-Ok
returns-in-Ok c =
    let (r, said, held) = rw c.in-Ok.is at (c.load.ensures fresh_sized refl) in
    rw said held.crews.count_is

pub returns-in-Err : goal.returns-in-Err
returns-in-Err c = rw (rw c.in-Err.is at (c.load.ensures fresh_sized refl))
