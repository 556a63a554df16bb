-- `tables::sets_to` meets its contract: what the row holds is what the columns hold.
-- Assumes nothing.
use mathlib.Core.Path.{refl}
use borrow.Author.Tests.{eq-eqb, ne_eqb}
use Rattle.tables.specs.Rows.{field}
use Rattle.tables.proofs.Columns.{column_at, in_force_row}
use Rattle.tables.proofs.sets_to.Goals as goal

pub returns-then-row-q : goal.returns-then-row-q
returns-then-row-q c =
    simp (
      column_at (field 0) refl,
      column_at (field 2) refl,
      eq-eqb _ _ c.if-row-v.true,
      eq-eqb _ _ c.if-row-q.true,
      in_force_row,
    )

pub returns-else-row-q : goal.returns-else-row-q
returns-else-row-q c =
    simp (
      column_at (field 0) refl,
      column_at (field 2) refl,
      eq-eqb _ _ c.if-row-v.true,
      ne_eqb _ _ c.if-row-q.false,
    )

pub returns-else-row-v : goal.returns-else-row-v
returns-else-row-v c = simp (column_at (field 0) refl, ne_eqb _ _ c.if-row-v.false)
