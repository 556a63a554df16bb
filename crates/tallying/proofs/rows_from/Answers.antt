-- `tallying::rows_from` meets its contract: each turn fills one row from one position of what is kept.
-- Assumes nothing.
use Prim.Native.Nat.{◌+◌, ◌*◌, ◌≤◌}
use native.Mathlib.Nat.{add-sub_cancel_left}
use native.Mathlib.Omega.{arith}
use lib.ListN.{length, take, drop}
use Rattle.tallying.proofs.Filling.{ColumnOf, place, length_part, column_there, column_below, put_back, none_filled, row_fits, one_filled, all_filled}
use Rattle.tallying.proofs.rows_from.Goals as goal
use Rattle.tallying.proofs.rows_from.Goals.{In-loop-p}

pub loop-p-init : goal.loop-p-init
loop-p-init c = none_filled

room-for-row : (t : In-loop-p) → place t.args.actions t.loop-p.p + t.args.actions ≤ length t.loop-p.report
room-for-row t = row_fits t.loop-p.invariant t.requires.3 t.loop-p-test.true

-- what is counted in this turn
this-column :
    (t : In-loop-p)
    → ColumnOf t.args.kept.now 0 64 t.args.n t.loop-p.p
    (take t.args.n (drop (64 * t.loop-p.p) t.args.kept.now))
this-column t =
    column_there t.args.kept.now 0 64 t.args.len t.args.n (64 * t.loop-p.p) t.loop-p.p t.requires.1 t.requires.0 t.loop-p-test.true (omega arith)

pub overflow_mul-at : goal.overflow_mul-at
overflow_mul-at c = omega (arith, room-for-row (goal.at.overflow_mul-at c).In-loop-p)

pub tally-requires : goal.tally-requires
tally-requires c =
    rw (add-sub_cancel_left (64 * c.loop-p.p) c.args.n, add-sub_cancel_left (place c.args.actions c.loop-p.p) c.args.actions, length_part _ (place c.args.actions c.loop-p.p) _ (room-for-row (goal.at.tally-requires c).In-loop-p))
    (omega (arith, (this-column (goal.at.tally-requires c).In-loop-p).long), column_below (this-column (goal.at.tally-requires c).In-loop-p) c.loop-p-test.true c.requires.2)

pub loop-p-preserved : goal.loop-p-preserved
loop-p-preserved c =
    let row =
    rw (add-sub_cancel_left (64 * c.loop-p.p) c.args.n, add-sub_cancel_left (place c.args.actions c.loop-p.p) c.args.actions, length_part _ (place c.args.actions c.loop-p.p) _ (room-for-row (goal.at.loop-p-preserved c).In-loop-p))
    at c.tally.ensures in
    one_filled c.loop-p.invariant c.requires.3 c.loop-p-test.true (this-column (goal.at.loop-p-preserved c).In-loop-p) (put_back _ (place c.args.actions c.loop-p.p) c.args.actions row)

pub returns : goal.returns
returns c = all_filled c.loop-p.invariant (omega arith)
