-- `heading::all_refused` meets its contract: what one seed is refused with, each is.
-- Assumes nothing.
use mathlib.Core.Path.{refl, ◌∙◌}
use native.Mathlib.Omega.{arith}
use Rattle.heading.proofs.Writing.{refused_report, writes_all, writes_none, barred_reports}
use Rattle.heading.proofs.all_refused.Goals as goal

pub returns-then-report-lt-HEAD : goal.returns-then-report-lt-HEAD
returns-then-report-lt-HEAD c t first a lawful comes is =
    barred_reports lawful comes
    (writes_none (refused_report a.number c.args.seeds) c.args.report.now (omega (arith, c.if-report-lt-HEAD.true)) c.refusal.ensures refl)

pub returns : goal.returns
returns c t first a lawful comes is =
    barred_reports lawful comes
    (writes_all (refused_report a.number c.args.seeds) c.args.report.now (omega (arith, c.if-report-lt-HEAD.false)) c.done.ensures
    (c.head.ensures ∙ rw (is, c.only.ensures, c.only-2.ensures, c.only-3.ensures)))
