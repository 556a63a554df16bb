-- `lacking::lowest` meets its contract: each turn passes one action and keeps `Underway`.
-- Assumes nothing.
use Rattle.lacking.proofs.AllActions.{begins, in_table_lem, low_var, low_pre, stand, skips, goes_on, ends}
use Rattle.lacking.proofs.lowest.Goals.{then-steps-j, else-steps-j}
use Rattle.lacking.proofs.lowest.Goals as goal

pub loop-i-init : goal.loop-i-init
loop-i-init c = begins c.requires

pub bounds-steps-j : goal.bounds-steps-j
bounds-steps-j c =
    in_table_lem c.loop-i.invariant c.loop-i-test.true c.action_at-act.ensures c.wide.ensures.0 c.wide-in-loop-i.ensures.0

pub weigh_action-best-requires : goal.weigh_action-best-requires
weigh_action-best-requires c =
    let u = c.loop-i.invariant in
    let h = c.loop-i-test.true in
    let v = c.wide.ensures.0 in
    let p = c.wide-in-loop-i.ensures.0 in
    (low_var u h c.action_at-act.ensures v p, low_pre u h c.action_at-act.ensures v p, stand u h c.action_at-act.ensures v p)

pub loop-i-preserved : goal.loop-i-preserved
loop-i-preserved c =
    let u = c.loop-i.invariant in
    let h = c.loop-i-test.true in
    let v = c.wide.ensures.0 in
    let p = c.wide-in-loop-i.ensures.0 in
    elim c.if-steps-j.branch [
      | then-steps-j w ↦ rw w.best-is (goes_on u h c.action_at-act.ensures v p w.if-steps-j.true w.weigh_action-best.ensures)
      | else-steps-j w ↦ rw w.best-is (skips u h c.action_at-act.ensures v p w.if-steps-j.false)
    ]

pub returns : goal.returns
returns c = ends c.loop-i.invariant c.loop-i-test.false
