-- `wanting::want` meets its contract: each turn passes one condition and keeps `Underway`.
-- Assumes nothing.
use Prim.Native.Nat.{◌+◌, ◌*◌}
use native.Mathlib.Omega.{arith}
use Rattle.wanting.proofs.OneAction.{begins, goes_on, ends}
use Rattle.wanting.proofs.want.Goals as goal

pub loop-k-init : goal.loop-k-init
loop-k-init c = begins c.requires.0 c.requires.1 c.requires.2

pub loop-k-preserved : goal.loop-k-preserved
loop-k-preserved c =
    goes_on c.loop-k.invariant c.loop-k-test.true {at = c.args.place + 3 * c.from.result} (omega (arith, c.from.ensures))
    c.from-in-loop-k.ensures c.from-in-loop-k-2.ensures c.if-steps-j-eq0.false

pub returns-clause-wants_each : goal.returns-clause-wants_each
returns-clause-wants_each c = ends c.loop-k.invariant c.loop-k-test.false
