-- `entering::enter_many` meets its contract: the row keeps its other fields.
-- Assumes nothing.
use mathlib.Core.Path.{refl}
use Rattle.entering.proofs.Rows.{many_stored}
use Rattle.entering.proofs.enter_many.Goals as goal

pub returns : goal.returns
returns c = many_stored _ _ _ refl
