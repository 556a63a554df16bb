-- `opening::open_step` meets its contract: the rank of the action is put in, or there is none.
-- Assumes nothing.
use native.Mathlib.Omega.{arith}
use Rattle.opening.proofs.Joining.{joined_none, leads_nowhere, leads_joined}
use Rattle.opening.proofs.open_step.Goals as goal

pub returns-then-step-gt1 : goal.returns-then-step-gt1
returns-then-step-gt1 c = leads_joined c.if-step-gt1.true c.add.ensures

pub returns-else-step-gt1 : goal.returns-else-step-gt1
returns-else-step-gt1 c = joined_none c.requires.1 (λ r. leads_nowhere (omega arith))
