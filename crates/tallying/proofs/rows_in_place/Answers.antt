-- `tallying::rows_in_place` meets its contract: the rows that are not reached still hold the plans.
-- Assumes nothing.
use mathlib.Core.Path.{refl}
use native.Mathlib.Omega.{arith}
use lib.ListN.{take, drop}
use Rattle.tallying.proofs.Filling.{ColumnOf, place, column_there, column_below, none_filled, row_fits, one_filled, all_filled}
use Rattle.tallying.proofs.rows_in_place.Goals as goal
use Rattle.tallying.proofs.rows_in_place.Goals.{In-loop-p}

pub loop-p-init : goal.loop-p-init
loop-p-init c = none_filled

-- the row that this turn reaches holds what the plans have at its position
this-column :
    (t : In-loop-p)
    → ColumnOf t.args.report.now 5 t.args.actions t.args.n t.loop-p.p
    (take t.args.n (drop (place t.args.actions t.loop-p.p) t.loop-p.report))
this-column t =
    rw t.loop-p.invariant.ahead
    (column_there t.args.report.now 5 t.args.actions t.args.len t.args.n (place t.args.actions t.loop-p.p) t.loop-p.p t.requires.2 t.requires.1 t.loop-p-test.true refl)

pub overflow_mul-actions : goal.overflow_mul-actions
overflow_mul-actions c = omega (arith, row_fits c.loop-p.invariant c.requires.2 c.loop-p-test.true)

pub overflow_add-actions : goal.overflow_add-actions
overflow_add-actions c = omega (arith, row_fits c.loop-p.invariant c.requires.2 c.loop-p-test.true)

pub tally_in_place-requires : goal.tally_in_place-requires
tally_in_place-requires c =
    (c.requires.0, c.requires.1, row_fits c.loop-p.invariant c.requires.2 c.loop-p-test.true, column_below (this-column (goal.at.tally_in_place-requires c).In-loop-p) c.loop-p-test.true c.requires.3)

pub loop-p-preserved : goal.loop-p-preserved
loop-p-preserved c =
    one_filled c.loop-p.invariant c.requires.2 c.loop-p-test.true (this-column (goal.at.loop-p-preserved c).In-loop-p) c.tally_in_place.ensures

pub returns : goal.returns
returns c = all_filled c.loop-p.invariant (omega arith)
