-- `barring::failing` meets its contract. The loop's invariant: the conditions before k hold.
-- Assumes nothing.
use native.Mathlib.Omega.{arith}
use Rattle.barring.proofs.Searches.{condition_fails, condition_holds, conditions_hold}
use Rattle.barring.proofs.failing.Goals as goal

pub returns-then-state-wide : goal.returns-then-state-wide
returns-then-state-wide c =
    λ cs h.
    condition_fails h c.args.state.now c.loop-k.k (omega arith) (c.loop-k.invariant cs h)
    (rw c.wide.ensures.0 at c.if-state-wide.true)

pub loop-k-preserved : goal.loop-k-preserved
loop-k-preserved c =
    λ cs h.
    condition_holds h c.args.state.now c.loop-k.k (omega arith) (c.loop-k.invariant cs h)
    (rw c.wide.ensures.0 at c.if-state-wide.false)

pub returns : goal.returns
returns c = λ cs h. conditions_hold h c.args.state.now c.loop-k.k (omega arith) (c.loop-k.invariant cs h)
