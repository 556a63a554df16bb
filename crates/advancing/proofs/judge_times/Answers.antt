-- `advancing::judge_times` meets its contract: the call's result is the fault, and the branch says whether it is 0.
-- Assumes nothing.
use borrow.Author.Tests.{eq-eqb, ne_eqb}
use Rattle.advancing.proofs.judge_times.Goals as goal

pub returns-then-fault-ne0 : goal.returns-then-fault-ne0
returns-then-fault-ne0 c = rw (← c.times_fault-fault.ensures, ne_eqb _ 0 c.if-fault-ne0.true)

pub returns : goal.returns
returns c = rw (← c.times_fault-fault.ensures, eq-eqb _ 0 c.if-fault-ne0.false)
