-- `keeping::judge_first` meets its contract: fewer taken than are on walks is refusal 12 of each seed, else each gives a plan.
-- Assumes nothing.
use mathlib.Core.Path.{refl}
use native.Mathlib.Omega.{arith}
use Rattle.planning.specs.Refusals.{with_ring}
use Rattle.keeping.proofs.Alike.{plan_long, taken_few, ring_comes, plan_comes}
use Rattle.keeping.proofs.Writing.{reports_no_room}
use Rattle.keeping.proofs.judge_first.Goals as goal

pub returns-then-taken-e : goal.returns-then-taken-e
returns-then-taken-e c =
    λ t room range is taken.
    c.all_refused.ensures t c.args.e.first (with_ring c.args.taken) taken.so.lawful
    (ring_comes c.args.e.first taken.so taken.sized taken.within c.if-taken-e.true) refl

pub returns-then-report-length : goal.returns-then-report-length
returns-then-report-length c =
    λ t room range is taken.
    let first = c.args.e.first in
    reports_no_room is range.some taken.so.lawful
    (plan_comes first taken.so taken.sized taken.within (omega (arith, c.if-taken-e.false)))
    (plan_long (taken_few first taken.so taken.sized taken.within) room taken.sized) c.if-report-length.true c.refusal.ensures refl

pub returns : goal.returns
returns c =
    λ t room range is taken.
    (refl, refl, omega (arith, c.if-report-length.false), plan_comes c.args.e.first taken.so taken.sized taken.within (omega (arith, c.if-taken-e.false)))
