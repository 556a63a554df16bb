-- `opening::open_next` meets its contract: if nothing wants the value, the rank of the action that leaves it is put in.
-- Assumes nothing.
use Rattle.opening.proofs.Joining.{joined_as, joined_none}
use Rattle.opening.proofs.open_next.Goals as goal

pub open_step-requires : goal.open_step-requires
open_step-requires c =
    (rw c.wide.ensures.0 c.requires.0.ranked, c.requires.1)

pub returns-then-wants-here-eq0 : goal.returns-then-wants-here-eq0
returns-then-wants-here-eq0 c =
    let e = c.wide.ensures.0 in
    joined_as (rw e at c.open_step.ensures) (λ r l. record { unwanted = rw e at c.if-wants-here-eq0.true; leads = l }) (λ r o. o.leads)

pub returns-else-wants-here-eq0 : goal.returns-else-wants-here-eq0
returns-else-wants-here-eq0 c =
    joined_none c.requires.1 (λ r o. c.if-wants-here-eq0.false (rw c.wide.ensures.0 o.unwanted))
