-- `matching::comes_again` meets its contract: each turn compares the plan with one more of those behind it.
-- Assumes nothing.
use mathlib.Core.Path.{refl, sym, ◌∙◌}
use native.Mathlib.Omega.{arith}
use Rattle.matching.specs.Kept.{plan_at}
use Rattle.matching.proofs.Differing.{among_next, among_none}
use Rattle.matching.proofs.comes_again.Goals as goal

pub loop-k-init : goal.loop-k-init
loop-k-init c = λ plans each kept. refl

pub same-requires : goal.same-requires
same-requires c = (omega arith, omega arith, c.requires.2)

pub returns-then-same : goal.returns-then-same
returns-then-same c =
    λ plans each kept.
    sym (c.loop-k.invariant plans each kept
    ∙ (among_next (plan_at plans _) plans c.loop-k.k (omega arith)
    ∙ rw (← c.same.ensures plans (omega arith) (omega arith) kept, c.if-same.true)))

pub loop-k-preserved : goal.loop-k-preserved
loop-k-preserved c =
    λ plans each kept.
    c.loop-k.invariant plans each kept
    ∙ (among_next (plan_at plans _) plans c.loop-k.k (omega arith)
    ∙ rw (← c.same.ensures plans (omega arith) (omega arith) kept, c.if-same.false))

pub returns : goal.returns
returns c =
    λ plans each kept. sym (c.loop-k.invariant plans each kept ∙ among_none (plan_at plans _) plans c.loop-k.k (omega arith))
