-- `judging::faults::action_fault` meets its contract: each return's tests are those of `action_fault_lem`.
-- Assumes nothing.
use mathlib.Core.Bool.{not}
use mathlib.Core.Path.{ap}
use borrow.Author.Tests.{le-leb, lt-leb, eq-eqb, ne_eqb}
use Rattle.judging.specs.Faults.{action_fault_lem}
use Rattle.judging.proofs.Tests.{not_taken, not_left}
use Rattle.judging.proofs.faults.action_fault.Goals as goal

pub returns-then-actions-ge256 : goal.returns-then-actions-ge256
unfolding action_fault_lem
returns-then-actions-ge256 c = simp (le-leb _ _ c.if-actions-ge256.true)

pub returns-then-not-in_range : goal.returns-then-not-in_range
unfolding action_fault_lem
returns-then-not-in_range c = simp (lt-leb _ _ c.if-actions-ge256.false, not_taken c.in_range.ensures (ap not c.if-not-in_range.true))

pub returns-then-not-in_range-2 : goal.returns-then-not-in_range-2
unfolding action_fault_lem
returns-then-not-in_range-2 c =
    simp (lt-leb _ _ c.if-actions-ge256.false, not_left c.in_range.ensures (ap not c.if-not-in_range.false), not_taken c.in_range-2.ensures (ap not c.if-not-in_range-2.true))

pub returns-then-p-q : goal.returns-then-p-q
unfolding action_fault_lem
returns-then-p-q c =
    simp (
      lt-leb _ _ c.if-actions-ge256.false,
      not_left c.in_range.ensures (ap not c.if-not-in_range.false),
      not_left c.in_range-2.ensures (ap not c.if-not-in_range-2.false),
      eq-eqb _ _ c.if-p-q.true,
    )

pub returns : goal.returns
unfolding action_fault_lem
returns c =
    simp (
      lt-leb _ _ c.if-actions-ge256.false,
      not_left c.in_range.ensures (ap not c.if-not-in_range.false),
      not_left c.in_range-2.ensures (ap not c.if-not-in_range-2.false),
      ne_eqb _ _ c.if-p-q.false,
    )
