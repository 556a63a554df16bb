-- `heading::head` meets its contract: five bytes stored.
-- Assumes nothing.
use native.Mathlib.Omega.{arith}
use mathlib.Core.List.{List}
use Prim.Native.Nat.{ℕ, ◌<◌}
use lib.ListN.{length, set, length-set}
use Rattle.heading.proofs.Writing.{five_stored}
use Rattle.heading.proofs.head.Goals as goal

within : (l : List ℕ) (i x : ℕ) {k : ℕ} → k < length l → k < length (set l i x)
within l i x h = rw (length-set l i x) h

pub bounds-report-1 : goal.bounds-report-1
bounds-report-1 c = within c.args.report.now 0 c.args.plans (omega (arith, c.requires))

pub bounds-report-2 : goal.bounds-report-2
bounds-report-2 c = within (set c.args.report.now 0 c.args.plans) 1 c.args.without (within c.args.report.now 0 c.args.plans (omega (arith, c.requires)))

pub bounds-report-3 : goal.bounds-report-3
bounds-report-3 c =
    within (set (set c.args.report.now 0 c.args.plans) 1 c.args.without) 2 c.args.off
    (within (set c.args.report.now 0 c.args.plans) 1 c.args.without (within c.args.report.now 0 c.args.plans (omega (arith, c.requires))))

pub returns : goal.returns
returns c = five_stored c.args.plans c.args.without c.args.off c.args.ringed c.args.different c.args.report.now c.requires
