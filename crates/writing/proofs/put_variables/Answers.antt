-- `writing::put_variables` meets its contract: at each turn the bytes of one variable are put.
-- Assumes nothing.
use native.Mathlib.Omega.{arith}
use Rattle.spelling.specs.Spelling.{spelled}
use Rattle.putting.proofs.Putting.{first_fits, first_put, none_left}
use Rattle.putting.proofs.Entries.{nothing_left, variable_first}
use Rattle.writing.proofs.put_variables.Goals as goal

pub put-at-requires : goal.put-at-requires
put-at-requires c =
    (omega arith, first_fits c.loop-variable.invariant (variable_first c.args.variables.now c.loop-variable.variable-index (omega arith)) c.requires)

pub loop-variable-preserved : goal.loop-variable-preserved
loop-variable-preserved c =
    first_put c.loop-variable.invariant (variable_first c.args.variables.now c.loop-variable.variable-index (omega arith)) c.put-at.ensures

pub returns : goal.returns
unfolding spelled
returns c =
    none_left (rw (nothing_left c.args.variables.now c.loop-variable.variable-index (omega arith)) at c.loop-variable.invariant)
