-- `finishing::ends::away` meets its contract. The loop's invariant: the variables before v are at their goals.
-- Assumes nothing.
use native.Mathlib.Omega.{arith}
use Rattle.finishing.proofs.Goals.{variable_away, variable_there, none_away}
use Rattle.finishing.proofs.ends.away.Goals as goal

pub returns-then-state-v : goal.returns-then-state-v
returns-then-state-v c =
    λ tasks h. variable_away h c.args.state.now c.loop-v.v (omega arith) (c.loop-v.invariant tasks h) c.variable_at.ensures.goal c.if-state-v.true

pub loop-v-preserved : goal.loop-v-preserved
loop-v-preserved c =
    λ tasks h. variable_there h c.args.state.now c.loop-v.v (omega arith) (c.loop-v.invariant tasks h) c.variable_at.ensures.goal c.if-state-v.false

pub returns : goal.returns
returns c = λ tasks h. none_away h c.args.state.now c.loop-v.v (omega arith) (c.loop-v.invariant tasks h)
