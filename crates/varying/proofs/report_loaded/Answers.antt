-- `varying::report_loaded` meets its contract: a variable with no walk bars every seed, else the walks are entered once for all.
-- Assumes nothing.
use mathlib.Core.Path.{refl}
use native.Mathlib.Omega.{arith}
use Rattle.stages.proofs.Stages.{known_walkable, known_walked}
use Rattle.varying.proofs.Once.{known_entered}
use Rattle.keeping.proofs.Alike.{without_comes}
use Rattle.varying.proofs.report_loaded.Goals as goal

pub walk_all-walked-requires : goal.walk_all-walked-requires
walk_all-walked-requires c =
    let (t, x, known) = c.requires.5 in
    (refl, known_walkable known)

pub returns-in_default : goal.returns-in_default
returns-in_default c t x known =
    let lowest = rw c.in_default.is at (known_walked known (c.walk_all-walked.ensures.walks_all t)) in
    c.all_refused.ensures t c.args.first _ known.lawful (without_comes known.lawful c.args.first lowest) refl

pub report_many-requires : goal.report_many-requires
report_many-requires c =
    let (t, x, known) = c.requires.5 in
    let walked = rw c.in-Ok.is at (known_walked known (c.walk_all-walked.ensures.walks_all t)) in (
      c.requires.0,
      record { low = c.requires.1; high = c.requires.4; some = c.requires.2; few = c.requires.3 },
      c.if-actions-gt-FEW.true,
      (t, known_entered _ known walked),
    )

pub returns-then-actions-gt-FEW : goal.returns-then-actions-gt-FEW
returns-then-actions-gt-FEW c t x known =
    let walked = rw c.in-Ok.is at (known_walked known (c.walk_all-walked.ensures.walks_all t)) in
    c.report_many.ensures t (known_entered _ known walked)

pub report_few-requires : goal.report_few-requires
report_few-requires c =
    let (t, x, known) = c.requires.5 in
    let walked = rw c.in-Ok.is at (known_walked known (c.walk_all-walked.ensures.walks_all t)) in (
      c.requires.0,
      record { low = c.requires.1; high = c.requires.4; some = c.requires.2; few = c.requires.3 },
      omega (arith, c.if-actions-gt-FEW.false),
      (t, known_entered _ known walked),
    )

pub returns : goal.returns
returns c t x known =
    let walked = rw c.in-Ok.is at (known_walked known (c.walk_all-walked.ensures.walks_all t)) in
    c.report_few.ensures t (known_entered _ known walked)
