-- `tracing::walk_all` meets its contract: each turn enters one more walk, and keeps `Underway`.
-- Assumes nothing.
use mathlib.Core.Path.{sym, ◌∙◌}
use Rattle.tracing.proofs.Rounds.{goes_on, stops}
use Rattle.tracing.proofs.walk_all.Goals as goal

pub returns-in-Err-clause-walks_all : goal.returns-in-Err-clause-walks_all
returns-in-Err-clause-walks_all c =
    let row = c.variable_at-var.ensures in
    λ t moves count starts goals empty.
    stops c.loop-v.invariant c.loop-v-test.true _ (c.trace-number.ensures.steps_len, rw (c.wide.ensures.0, row.goal, row.start) at c.trace-number.ensures.traces)
    _ (sym c.outcome.ensures ∙ c.in-Err.is) t
    (record { moves = moves; count = count; tells_start = starts; tells_goal = goals; empty = empty })

pub loop-v-preserved : goal.loop-v-preserved
loop-v-preserved c =
    let row = c.variable_at-var.ensures in
    rw c.wide-total.ensures.0
    (goes_on c.loop-v.invariant c.loop-v-test.true _ (c.trace-number.ensures.steps_len, rw (c.wide.ensures.0, row.goal, row.start) at c.trace-number.ensures.traces)
    (sym c.outcome.ensures ∙ c.in-Ok.is))
