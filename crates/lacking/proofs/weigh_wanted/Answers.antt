-- `lacking::weigh_wanted` meets its contract: each turn passes one condition and keeps `Underway`.
-- Assumes nothing.
use Prim.Native.Nat.{◌+◌, ◌*◌, ◌<◌}
use native.Mathlib.Omega.{arith}
use Rattle.wanting.proofs.Conditions.{Here}
use Rattle.lacking.proofs.Wanted.{begins, here, in_table_lem, step_fits, goes_on, ends}
use Rattle.lacking.proofs.weigh_wanted.Goals as goal
use Rattle.lacking.proofs.weigh_wanted.Goals.{After-wide, In-loop-k}

-- in a turn, a condition that fits the tables stands at the place
there :
    (d : In-loop-k)
    → Here d.args.file.now (d.args.act.place + 3 * d.loop-k.k) (here d.loop-k.invariant d.loop-k-test.true).0
there d = (here d.loop-k.invariant d.loop-k-test.true).1

-- its value has an entry in the tables
entry : (w : After-wide) → 16 * w.wide-v.result + w.wide.result < 512
entry w =
    in_table_lem w.loop-k.invariant w.loop-k-test.true w.wide-v.ensures.0 w.wide.ensures.0

pub loop-k-init : goal.loop-k-init
loop-k-init c = begins c.requires

pub overflow_add-q : goal.overflow_add-q
overflow_add-q c = omega (arith, there (goal.at.overflow_add-q c).In-loop-k)

pub bounds-file-at : goal.bounds-file-at
bounds-file-at c = omega (arith, there (goal.at.bounds-file-at c).In-loop-k)

pub overflow_add-at : goal.overflow_add-at
overflow_add-at c = omega (arith, there (goal.at.overflow_add-at c).In-loop-k)

pub bounds-file-at-in-loop-k : goal.bounds-file-at-in-loop-k
bounds-file-at-in-loop-k c = omega (arith, there (goal.at.bounds-file-at-in-loop-k c).In-loop-k)

pub variable_at-var-requires : goal.variable_at-var-requires
variable_at-var-requires c = omega (arith, c.wide-v.ensures.0, there (goal.at.variable_at-var-requires c).In-loop-k)

pub bounds-setters-j : goal.bounds-setters-j
bounds-setters-j c = entry (goal.at.bounds-setters-j c).After-wide

pub offset_bounds-steps-j : goal.offset_bounds-steps-j
offset_bounds-steps-j c = omega (arith, entry (goal.at.offset_bounds-steps-j c).After-wide)

pub bounds-steps-j : goal.bounds-steps-j
bounds-steps-j c = entry (goal.at.bounds-steps-j c).After-wide

pub weigh_leaver-best-requires : goal.weigh_leaver-best-requires
weigh_leaver-best-requires c =
    step_fits c.loop-k.invariant c.loop-k-test.true c.wide-v.ensures.0 c.wide.ensures.0

pub loop-k-preserved : goal.loop-k-preserved
loop-k-preserved c =
    goes_on c.loop-k.invariant c.loop-k-test.true c.wide-v.ensures.0 c.wide.ensures.0 c.variable_at-var.ensures.start
    c.weigh_setter-set.ensures c.weigh_leaver-best.ensures

pub returns : goal.returns
returns c = ends c.loop-k.invariant c.loop-k-test.false
