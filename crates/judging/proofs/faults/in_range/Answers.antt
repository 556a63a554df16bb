-- `judging::faults::in_range` meets its contract: `in_table` asks first for the variable, then for the value.
-- Assumes nothing.
use mathlib.Core.Path.{refl}
use borrow.Author.Tests.{lt-ltb, le-ltb}
use Rattle.tables.specs.Rows.{field}
use Rattle.tables.proofs.Columns.{column_at}
use Rattle.judging.specs.Faults.{in_table}
use Rattle.judging.proofs.faults.in_range.Goals as goal

pub returns-then-vars-i : goal.returns-then-vars-i
unfolding in_table
returns-then-vars-i c = simp (le-ltb _ _ c.if-vars-i.true)

pub returns : goal.returns
unfolding in_table
returns c = simp (lt-ltb _ _ c.if-vars-i.false, column_at (field 0) refl)
