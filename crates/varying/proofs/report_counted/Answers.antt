-- `varying::report_counted` meets its contract: the first seed settles the answer, or gives a plan, and then each does.
-- Assumes nothing.
use mathlib.Core.Path.{ap}
use native.Mathlib.Omega.{arith}
use lib.ListN.{length}
use Rattle.varying.proofs.Once.{figures_few}
use Rattle.keeping.proofs.Writing.{reports_plans}
use Rattle.varying.proofs.report_counted.Goals as goal

pub take_many_by-taken-requires : goal.take_many_by-taken-requires
take_many_by-taken-requires c =
    (c.requires.0, c.requires.1, c.requires.2.low, omega (arith, c.requires.2.high, c.requires.2.some), c.requires.4)

pub judge_first-requires : goal.judge_first-requires
judge_first-requires c =
    let (t, once) = c.requires.4 in
    (c.requires.2.few, figures_few once.orderly once.deeds.actions)

pub count_many-requires : goal.count_many-requires
count_many-requires c =
    let (t, once) = c.requires.4 in
    let judged = rw c.in-Continue.is at (c.judge_first.ensures t _ c.requires.2 once.deeds.actions record { so = c.take_many_by-taken.ensures.taken t once; within = c.take_many_by-taken.ensures.upper_bound.0; sized = c.take_many_by-taken.ensures.upper_bound.1 }) in
    (c.take_many_by-taken.ensures.upper_bound.1, c.requires.1, c.requires.2, c.requires.3, omega (arith, judged.1, judged.2, ap length judged.0), (t, once, judged.3))

pub returns-in-Break : goal.returns-in-Break
returns-in-Break c =
    λ t once. rw c.in-Break.is at (c.judge_first.ensures t _ c.requires.2 once.deeds.actions record { so = c.take_many_by-taken.ensures.taken t once; within = c.take_many_by-taken.ensures.upper_bound.0; sized = c.take_many_by-taken.ensures.upper_bound.1 })

pub returns-in-Continue : goal.returns-in-Continue
returns-in-Continue c =
    λ t once.
    let judged = rw c.in-Continue.is at (c.judge_first.ensures t _ c.requires.2 once.deeds.actions record { so = c.take_many_by-taken.ensures.taken t once; within = c.take_many_by-taken.ensures.upper_bound.0; sized = c.take_many_by-taken.ensures.upper_bound.1 }) in
    reports_plans once.deeds.actions c.requires.2.some (omega (arith, judged.1, judged.2))
    (rw judged.0 at (c.count_many.ensures t once judged.3)) (rw judged.1 at c.done.ensures)
