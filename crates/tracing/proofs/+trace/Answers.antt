-- `tracing::trace` meets its contract: it stands at the start, has no more values left, meets a value that nobody sets, or goes on
-- from what the action leaves that sets its value.
-- Assumes nothing.
use mathlib.Core.Path.{◌∙◌}
use native.Mathlib.Omega.{arith}
use Rattle.tracing.proofs.Ranges.{told_pre, told_pre_small}
use Rattle.tracing.proofs.TraceEnds.{told_breaks, no_more_left, none_sets, goes_back}
use Rattle.tracing.proofs.+trace.Goals as goal

pub returns-then-left-eq0-clause-traces : goal.returns-then-left-eq0-clause-traces
returns-then-left-eq0-clause-traces t c = λ study moves e. no_more_left study _ _ _ _ _ c.if-left-eq0.true

pub returns-in_default-clause-traces : goal.returns-in_default-clause-traces
returns-in_default-clause-traces t c = λ study moves e.
    rw (told_breaks c.args.q c.requires.1)
    (none_sets study _ _ _ _ _ (λ z. c.if-q-start.false (z ∙ e))
    (c.in_default.ensures study moves))

pub returns-clause-traces : goal.returns-clause-traces
returns-clause-traces t c = λ study moves e.
    let is = c.in-Some.ensures study moves in
    let told = told_pre moves _ is.0.there in
    let small = told_pre_small moves _ is.0.there in
    let read = c.action_at-act.ensures.pre in
    goes_back study _ _ _ _ _ (λ z. c.if-q-start.false (z ∙ e)) moves.lawful c.if-left-eq0.false is
    (omega (arith, c.wide.ensures.0, read, told, small)) _
    (rw (c.wide.ensures.0, read, told) at (c.trace.ensures.traces study moves e))
