-- A row of an action, opened, is the action.
-- Assumes nothing.
use mathlib.Core.Path.{◌∙◌}
use mathlib.Core.List.{List}
use Prim.Native.Nat.{ℕ, ◌<◌}
use lib.ListN.{length}
use Rattle.study.specs.Study.{Study}
use Rattle.tables.specs.Rows.{Row, OpensAction}
use Rattle.tables.specs.declared.Act.{Act}
use Rattle.ringing.specs.Stranded.{Opened, Rowed}

pub opened_row :
    {file : List ℕ} {acts : List Row} {t : Study} {act : Act} {j : ℕ}
    → Rowed file acts t → OpensAction acts j act → j < length t.actions → Opened file act t j
opened_row {j = j} rowed opens there = record {
  there = there;
  is_var = opens.var ∙ rowed.tells_var j there;
  is_pre = opens.pre ∙ rowed.tells_pre j there;
  is_post = opens.post ∙ rowed.tells_post j there;
  conditions = rw (opens.place, opens.many) (rowed.tells_conditions j there);
}
