-- `ordering::order_all` meets its contract: each turn passes one action and keeps `Underway`.
-- Assumes nothing.
use Rattle.ordering.proofs.AllActions.{begins, some_turn, skips, goes_on, breaks_off, ends}
use Rattle.ordering.proofs.order_all.Goals.{then-steps-j+in_default, else-steps-j}
use Rattle.ordering.proofs.order_all.Goals as goal

pub loop-i-init : goal.loop-i-init
loop-i-init c = let p = c.requires in begins p.0 p.1 p.2 p.3 p.4

pub order_one-requires : goal.order_one-requires
order_one-requires c =
    let u = c.loop-i.invariant in
    (u.size, u.ranked, some_turn u c.loop-i-test.true c.action_at-act.ensures c.from.ensures c.from-in-loop-i.ensures c.if-steps-j.true)

pub returns-in-Err-clause-orders_all : goal.returns-in-Err-clause-orders_all
returns-in-Err-clause-orders_all c = λ t able distinct.
    breaks_off c.loop-i.invariant c.loop-i-test.true c.action_at-act.ensures c.from.ensures c.from-in-loop-i.ensures c.if-steps-j.true
    (rw c.in-Err.is at c.order_one.ensures.orders_one) t able

pub loop-i-preserved : goal.loop-i-preserved
loop-i-preserved c =
    let u = c.loop-i.invariant in
    let h = c.loop-i-test.true in
    let row = c.action_at-act.ensures in
    let v = c.from.ensures in
    let p = c.from-in-loop-i.ensures in
    elim c.if-steps-j.branch [
      | then-steps-j+in_default w ↦
          rw (w.before-is, w.members-is)
          (goes_on u h row v p w.if-steps-j.true w.with_bit-members.ensures w.order_one.ensures.before_len (rw w.in_default.is at w.order_one.ensures.orders_one))
      | else-steps-j w ↦ rw (w.before-is, w.members-is) (skips u h row v p w.if-steps-j.false)
    ]

pub returns-clause-orders_all : goal.returns-clause-orders_all
returns-clause-orders_all c = ends c.loop-i.invariant c.loop-i-test.false
