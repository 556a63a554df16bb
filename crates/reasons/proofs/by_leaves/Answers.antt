-- `reasons::by_leaves` meets its contract: each turn tells of the lowest that is left and keeps `Underway`.
-- Assumes nothing.
use mathlib.Core.Path.{refl}
use native.Mathlib.Omega.{arith}
use borrow.Author.Rules.{rules}
use Rattle.bits.proofs.Counted.{counted_falls}
use Rattle.reasons.proofs.Leavers.{begins, has_room, goes_on, ends_empty}
use Rattle.reasons.proofs.by_leaves.Goals as goal

pub loop-i-init : goal.loop-i-init
loop-i-init c =
    begins c.requires.0 c.requires.1 c.requires.2 c.requires.3 (search rules) c.wanters_of-rest.ensures

pub add-n-requires : goal.add-n-requires
add-n-requires c = (omega arith, (has_room c.loop-i.invariant c.in-Some.ensures (omega arith), c.loop-i.invariant.size))

pub loop-i-smaller : goal.loop-i-smaller
loop-i-smaller c =
    counted_falls _ _ _ (c.in-Some.ensures.there (omega arith)) c.remove.ensures.members 256 (omega arith)

pub loop-i-preserved : goal.loop-i-preserved
loop-i-preserved c =
    goes_on c.loop-i.invariant c.in-Some.ensures (omega arith) c.remove.ensures
    c.add-n.ensures.value.1 c.add-n.ensures.value.0 c.add-n.ensures.facts_after

pub returns : goal.returns
returns c =
    let u = c.loop-i.invariant in record {
      upper_bound = (omega (arith, u.passed, u.start, u.inside), u.size);
      by_index = λ file starts setters t plan j known step. rw (step.is_var, step.is_pre) at (ends_empty u c.in_default.ensures known);
    }
