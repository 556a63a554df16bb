-- `reader::record_after` meets its contract: it goes on to where the record at the place ended, and reads again.
-- Assumes nothing.
use mathlib.Core.Path.{◌∙◌}
use native.Mathlib.Omega.{arith}
use Rattle.reader.proofs.Laws.{reads_on}
use Rattle.reader.proofs.record_after.Goals as goal

pub returns : goal.returns
returns c = let e = reads_on c.args.file.now c.args.at in grind (arith, e)
