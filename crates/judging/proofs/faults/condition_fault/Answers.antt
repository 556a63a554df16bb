-- `judging::faults::condition_fault` meets its contract: each return's tests are those of `condition_fault_lem`.
-- Assumes nothing.
use mathlib.Core.Bool.{not}
use mathlib.Core.Path.{ap}
use borrow.Author.Tests.{le-leb, lt-leb, eq-eqb, ne_eqb}
use Rattle.judging.specs.Faults.{condition_fault_lem}
use Rattle.judging.proofs.Tests.{not_taken, not_left}
use Rattle.judging.proofs.faults.condition_fault.Goals as goal

pub returns-then-not-in_range : goal.returns-then-not-in_range
unfolding condition_fault_lem
returns-then-not-in_range c = simp (not_taken c.in_range.ensures (ap not c.if-not-in_range.true))

pub returns-then-v-own : goal.returns-then-v-own
unfolding condition_fault_lem
returns-then-v-own c =
    simp (not_left c.in_range.ensures (ap not c.if-not-in_range.false), eq-eqb _ _ c.if-v-own.true)

pub returns-then-v-above : goal.returns-then-v-above
unfolding condition_fault_lem
returns-then-v-above c =
    simp (not_left c.in_range.ensures (ap not c.if-not-in_range.false), ne_eqb _ _ c.if-v-own.false, lt-leb _ _ c.if-v-above.true)

pub returns : goal.returns
unfolding condition_fault_lem
returns c =
    simp (not_left c.in_range.ensures (ap not c.if-not-in_range.false), ne_eqb _ _ c.if-v-own.false, le-leb _ _ c.if-v-above.false)
