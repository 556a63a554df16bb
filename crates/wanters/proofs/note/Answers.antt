-- `wanters::note` meets its contract: each turn passes one condition and keeps `Underway`.
-- Assumes nothing.
use Rattle.std.proofs.Common.{◌≡◌, ◌+◌, ◌*◌, add-zero}
use native.Mathlib.Omega.{arith}
use Rattle.wanters.proofs.OneAction.{begins, goes_on, ends}
use Rattle.wanters.proofs.note.Goals as goal

pub loop-k-init : goal.loop-k-init
loop-k-init c = rw add-zero (begins c.requires.0 c.requires.1 c.requires.2)

pub loop-k-preserved : goal.loop-k-preserved
loop-k-preserved c =
    let next : c.args.place + 3 * c.loop-k.k + 3 ≡ c.args.place + 3 * (c.loop-k.k + 1) = omega arith in
    rw (← next) (goes_on c.loop-k.invariant c.loop-k-test.true c.wide.ensures.0 c.wide-in-loop-k.ensures.0 c.add.ensures)

pub returns-clause-x_after : goal.returns-clause-x_after
returns-clause-x_after c = ends c.loop-k.invariant c.loop-k-test.false
