-- `matching::same` meets its contract: each turn compares one entry, and the plans are the same if they are from there on.
-- Assumes nothing.
use mathlib.Core.Path.{refl, sym, ◌∙◌}
use native.Mathlib.Omega.{arith}
use Rattle.matching.specs.Kept.{plan_at}
use Rattle.matching.proofs.Places.{row_within}
use Rattle.matching.proofs.Differing.{entries_same, entries_differ, no_entry_left}
use Rattle.matching.proofs.same.Goals as goal

pub loop-p-init : goal.loop-p-init
loop-p-init c = λ plans a b kept. refl

pub overflow_mul-at : goal.overflow_mul-at
overflow_mul-at c = omega (arith, row_within c.args.stride c.loop-p-test.true)

pub returns-then-region-at : goal.returns-then-region-at
returns-then-region-at c =
    λ plans a b kept. sym (c.loop-p.invariant plans a b kept ∙ entries_differ kept a b refl c.loop-p-test.true c.if-region-at.true)

pub loop-p-preserved : goal.loop-p-preserved
loop-p-preserved c = λ plans a b kept. c.loop-p.invariant plans a b kept ∙ entries_same kept a b refl c.loop-p-test.true c.if-region-at.false

pub returns : goal.returns
returns c =
    λ plans a b kept.
    sym (c.loop-p.invariant plans a b kept
    ∙ no_entry_left (plan_at plans _) (plan_at plans _) c.loop-p.p (omega (arith, kept.even _ a)) (omega (arith, kept.even _ b)))
