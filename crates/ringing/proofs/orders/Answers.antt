-- `ringing::orders` meets its contract: each turn tells one order and keeps `Telling`.
-- Assumes nothing.
use Prim.Native.Nat.{◌-◌}
use mathlib.Core.Path.{◌≡◌}
use native.Mathlib.Omega.{arith}
use Rattle.ringing.proofs.Circles.{goes_on, ends}
use Rattle.ringing.proofs.orders.Goals as goal

pub loop-k-preserved : goal.loop-k-preserved
loop-k-preserved c =
    goes_on c.loop-k.invariant (omega arith) c.order-n.ensures.value.0 c.order-n.ensures.value.1 c.order-n.ensures.facts_after

pub returns-clause-facts_after : goal.returns-clause-facts_after
returns-clause-facts_after c =
    let v = c.loop-k.invariant in
    let last : c.args.c.to - 1 ≡ c.loop-k.k = omega arith in
    ends v c.order.new.facts c.order.result (omega arith) (rw last at c.order.ensures.facts_after)
