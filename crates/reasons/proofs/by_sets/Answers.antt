-- `reasons::by_sets` meets its contract: each turn passes one condition and keeps `Underway`.
-- Assumes nothing.
use mathlib.Core.Path.{◌≡◌, refl, sym, ◌∙◌}
use Prim.Native.Nat.{◌+◌, ◌*◌}
use Rattle.std.proofs.Common.{add-zero}
use native.Mathlib.Omega.{arith}
use Rattle.reasons.proofs.SetReasons.{step_wanting, begins, few_conditions, skips, goes_on, ends}
use Rattle.reasons.proofs.by_sets.Goals as goal
use Rattle.reasons.proofs.by_sets.Goals.{then-q-var, else-q-var}

pub loop-k-init : goal.loop-k-init
loop-k-init c =
    let (t, plan, j, wanters, known, step) = c.requires.2 in
    rw add-zero (begins c.requires.0 c.requires.1 (t, plan, j, wanters, known, step_wanting known step))

pub loop-k-preserved : goal.loop-k-preserved
loop-k-preserved c =
    let u = c.loop-k.invariant in
    let h = c.loop-k-test.true in
    let next : c.args.act.place + 3 * c.loop-k.k + 3 ≡ c.args.act.place + 3 * (c.loop-k.k + 1) = omega arith in
    elim c.if-q-var.branch [
      | then-q-var w ↦
          rw (w.facts-is, w.n-is, ← next)
          (goes_on u h c.wide-v.ensures.0 refl (λ e. w.if-q-var.true (e ∙ sym c.variable_at-var.ensures.start))
          w.wide.ensures.0 refl w.from.ensures w.add-n.ensures.value.1 w.add-n.ensures.value.0 w.add-n.ensures.facts_after)
      | else-q-var w ↦ rw (w.facts-is, w.n-is, ← next) (skips u h c.wide-v.ensures.0 refl (w.if-q-var.false ∙ c.variable_at-var.ensures.start))
    ]

pub returns-clause-upper_bound : goal.returns-clause-upper_bound
returns-clause-upper_bound c = let u = c.loop-k.invariant in (omega (arith, u.told, u.few, few_conditions u), u.size)

pub returns-clause-by_index : goal.returns-clause-by_index
returns-clause-by_index c =
    λ wanters t plan j known step. ends c.loop-k.invariant c.loop-k-test.false wanters t plan j known (step_wanting known step)
