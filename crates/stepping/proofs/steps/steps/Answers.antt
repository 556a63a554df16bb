-- `stepping::steps::steps` meets its contract. The loop's invariant: what is left of the list, from here, gives what all of it gives from the start.
-- Assumes nothing.
use native.Mathlib.Omega.{arith}
use Rattle.stepping.proofs.Halfway.{goes_on, ends}
use Rattle.stepping.proofs.steps.steps.Goals as goal

pub loop-k-preserved : goal.loop-k-preserved
loop-k-preserved c =
    λ t r s₀.
    let h = c.loop-k.invariant t r s₀ in
    goes_on h (omega arith) (rw c.in_ok-take_step.was at (c.take_step.ensures t h.past r h.stage))

pub returns : goal.returns
returns c = λ t r s. ends (c.loop-k.invariant t r s) (omega arith)
