-- `tasking::enter_tasks` meets its contract: each turn enters one task.
-- Assumes nothing.
use mathlib.Core.Path.{refl, ◌∙◌}
use native.Mathlib.Omega.{arith}
use lib.ListN.{length-set}
use Rattle.tables.specs.Rows.{field}
use Rattle.tables.proofs.Columns.{column_length}
use Rattle.entering.proofs.Rows.{task_stored}
use Rattle.tasking.proofs.Tasks.{one_entered}
use Rattle.tasking.proofs.enter_tasks.Goals as goal

pub loop-v-preserved : goal.loop-v-preserved
loop-v-preserved c =
    let i = c.loop-v.invariant in
    let stored = task_stored c.loop-v.vars c.loop-v.v _ _ refl in (
      length-set c.loop-v.vars c.loop-v.v _ ∙ i.0,
      stored.0 ∙ i.1,
      rw (stored.1, stored.2)
          (one_entered i.2 (omega (arith, column_length (field 1) c.loop-v.vars, i.0)) (omega (arith, column_length (field 2) c.loop-v.vars, i.0)) refl refl),
    )
