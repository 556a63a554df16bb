-- `ringing::wants` meets its contract: none of the conditions passed is the one.
-- Assumes nothing.
use Rattle.walks.specs.Walks.{conditions_of}
use mathlib.Core.Path.{sym}
use Rattle.ringing.proofs.Asking.{finds, ends}
use Rattle.ringing.proofs.wants.Goals as goal

pub returns-then-file-at-2 : goal.returns-then-file-at-2
returns-then-file-at-2 c =
    λ t j opened. sym (finds c.loop-k.invariant c.loop-k-test.true c.if-file-at.true c.if-file-at-2.true (conditions_of t j) opened.conditions)

pub returns : goal.returns
returns c = λ t j opened. sym (ends c.loop-k.invariant c.loop-k-test.false (conditions_of t j) opened.conditions)
