-- `checker::check` meets its contract: its tables are as long as their types say, so what is loaded is what the file says.
-- Assumes nothing.
use mathlib.Core.Path.{refl}
use Rattle.tables.proofs.Fresh.{fresh_sized}
use Rattle.checker.proofs.check.Goals as goal

pub returns-in-Ok : goal.returns-in-Ok
returns-in-Ok c =
    let (r, said, held) = rw c.in-Ok.is at (c.load.ensures fresh_sized refl) in
    rw (c.done.ensures, said, held.actions.count, held.counts.count)

pub returns-in-Err : goal.returns-in-Err
returns-in-Err c = rw (c.from.ensures, rw c.in-Err.is at (c.load.ensures fresh_sized refl))
