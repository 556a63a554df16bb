-- `ordering::order_wanted` meets its contract: each turn passes one condition and keeps `Underway`.
-- Assumes nothing.
use mathlib.Core.Path.{◌≡◌}
use Prim.Native.Nat.{◌+◌, ◌*◌}
use native.Mathlib.Omega.{arith}
use Rattle.wanting.proofs.Conditions.{Here}
use Rattle.ordering.proofs.Wanted.{begins, here, step_fits, setter_fits, goes_on, breaks_off, ends}
use Rattle.ordering.proofs.order_wanted.Goals as goal
use Rattle.ordering.proofs.order_wanted.Goals.{After-from}

-- where condition k stands
is_at : (d : After-from) → d.args.act.place + 3 * d.from.result ≡ d.args.act.place + 3 * d.loop-k.k
is_at d = omega (arith, d.from.ensures)

pub loop-k-init : goal.loop-k-init
loop-k-init c = let p = c.requires in begins p.0 p.1 p.2

pub returns-then-step-eq0-clause-orders_wanted : goal.returns-then-step-eq0-clause-orders_wanted
returns-then-step-eq0-clause-orders_wanted c =
    breaks_off c.loop-k.invariant c.loop-k-test.true (is_at (goal.at.returns-then-step-eq0-clause-orders_wanted c).After-from)
    c.from-v.ensures c.from-in-loop-k.ensures c.if-step-eq0.true

pub put_before-requires : goal.put_before-requires
put_before-requires c =
    let u = c.loop-k.invariant in
    (u.size, u.low, u.ranked, step_fits u c.loop-k-test.true (is_at (goal.at.put_before-requires c).After-from) c.from-v.ensures c.from-in-loop-k.ensures)

pub with_setter-word-requires : goal.with_setter-word-requires
with_setter-word-requires c =
    let u = c.loop-k.invariant in
    let e = is_at (goal.at.with_setter-word-requires c).After-from in
    let stands : Here c.args.file.now (c.args.act.place + 3 * c.from.result) (here u c.loop-k-test.true e).0 = (here u c.loop-k-test.true e).1 in (
      omega (arith, c.from-v.ensures, c.from-in-loop-k.ensures, stands),
      u.ranked,
      setter_fits u c.loop-k-test.true e c.from-v.ensures c.from-in-loop-k.ensures c.if-step-eq0.false c.variable_at-var.ensures.start,
    )

pub loop-k-preserved : goal.loop-k-preserved
loop-k-preserved c =
    goes_on c.loop-k.invariant c.loop-k-test.true (is_at (goal.at.loop-k-preserved c).After-from) c.from-v.ensures c.from-in-loop-k.ensures
    c.if-step-eq0.false c.variable_at-var.ensures.start c.put_before.ensures c.with_setter-word.ensures

pub returns-clause-orders_wanted : goal.returns-clause-orders_wanted
returns-clause-orders_wanted c = ends c.loop-k.invariant c.loop-k-test.false
