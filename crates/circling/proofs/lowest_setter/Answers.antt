-- `circling::lowest_setter` meets its contract: each turn passes one condition and keeps `Seeking`.
-- Assumes nothing.
use Rattle.std.proofs.Common.{◌≡◌, ◌+◌, ◌*◌, refl, sym, ◌∙◌}
use native.Mathlib.Omega.{arith}
use Rattle.circling.proofs.LowestSetter.{stand_at, passes_start, passes_set, ends}
use Rattle.circling.proofs.lowest_setter.Goals as goal
use Rattle.circling.proofs.lowest_setter.Goals.{then-q-var, else-q-var}

pub loop-k-preserved : goal.loop-k-preserved
loop-k-preserved c =
    let start = c.variable_at-var.ensures.start in
    let next : c.args.act.place + 3 * c.loop-k.k + 3 ≡ c.args.act.place + 3 * (c.loop-k.k + 1) = omega arith in
    elim c.if-q-var.branch [
      | then-q-var w ↦
          rw (w.low-is, ← next)
          (passes_set c.loop-k.invariant c.loop-k-test.true c.wide-v.ensures.0 refl (λ z. w.if-q-var.true (z ∙ sym start))
          (rw w.wide.ensures.0 at w.lower-low.ensures))
      | else-q-var w ↦ rw (w.low-is, ← next) (passes_start c.loop-k.invariant c.loop-k-test.true c.wide-v.ensures.0 refl (w.if-q-var.false ∙ start))
    ]

pub returns : goal.returns
returns c = λ t j sets stranded opened. ends c.loop-k.invariant c.loop-k-test.false t j sets stranded (stand_at stranded opened)
