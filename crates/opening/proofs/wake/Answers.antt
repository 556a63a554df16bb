-- `opening::wake` meets its contract: the ranks of the variables whose bits are taken out already are put in.
-- Assumes nothing.
use native.Mathlib.Omega.{arith}
use Rattle.bits.specs.Bits.{bit}
use Rattle.bits.proofs.Counted.{counted_falls}
use Rattle.opening.specs.Opening.{Placed}
use Rattle.opening.proofs.Waking.{waking_starts, waking_goes_on, waking_ends}
use Rattle.opening.proofs.wake.Goals as goal
use Rattle.opening.proofs.wake.Goals.{After-wide-v}

pub loop-rest-init : goal.loop-rest-init
loop-rest-init c = waking_starts _ _ _ _ _ c.requires.1

-- the variable of the lowest bit is one of those that are woken
placed : (c : After-wide-v)
    → let a = c.args in Placed a.ranks.now a.steps.now a.state.now c.wide-v.result
placed c =
    rw c.wide-v.ensures.0 (c.requires.0 _ (c.loop-rest.invariant.some_left _ c.lowest-w.ensures.there))

pub overflow_mul-v : goal.overflow_mul-v
overflow_mul-v c = omega (arith, (placed c).low)

pub bounds-state-v : goal.bounds-state-v
bounds-state-v c = (placed (goal.at.bounds-state-v c).After-wide-v).low

pub overflow_add-v : goal.overflow_add-v
overflow_add-v c = omega (arith, (placed (goal.at.overflow_add-v c).After-wide-v).low, c.wide.ensures.1)

pub offset_bounds-steps-v : goal.offset_bounds-steps-v
offset_bounds-steps-v c = omega (arith, (placed (goal.at.offset_bounds-steps-v c).After-wide-v).low, c.wide.ensures.1)

pub bounds-steps-v : goal.bounds-steps-v
bounds-steps-v c =
    let p = placed (goal.at.bounds-steps-v c).After-wide-v in
    rw c.wide.ensures.0 (omega (arith, p.low, p.narrow))

pub open_step-requires : goal.open_step-requires
open_step-requires c =
    (rw c.wide.ensures.0 (placed (goal.at.open_step-requires c).After-wide-v).ranked, c.loop-rest.invariant.passed.long)

pub without_bit-rest-requires : goal.without_bit-rest-requires
without_bit-rest-requires c = c.lowest-w.ensures.room

pub loop-rest-smaller : goal.loop-rest-smaller
loop-rest-smaller c =
    counted_falls (bit c.loop-rest.rest) (bit c.without_bit-rest.result) c.lowest-w.result c.lowest-w.ensures.there
    c.without_bit-rest.ensures 64 c.lowest-w.ensures.room

pub loop-rest-preserved : goal.loop-rest-preserved
loop-rest-preserved c =
    waking_goes_on c.loop-rest.invariant _ _ c.lowest-w.ensures.there c.without_bit-rest.ensures
    (rw (c.wide.ensures.0, c.wide-v.ensures.0) at c.open_step.ensures)

pub returns : goal.returns
returns c = waking_ends c.loop-rest.invariant c.loop-rest-test.false
