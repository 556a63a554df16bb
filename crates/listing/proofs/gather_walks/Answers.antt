-- `listing::gather_walks` meets its contract: each turn passes one action and keeps `Underway`.
-- Assumes nothing.
use Rattle.listing.proofs.Walking.{begins, in_table_lem, skips, goes_on, ends}
use Rattle.listing.proofs.gather_walks.Goals.{then-steps-j, else-steps-j}
use Rattle.listing.proofs.gather_walks.Goals as goal

pub loop-i-init : goal.loop-i-init
loop-i-init c = let p = c.requires in begins p.0 p.1 p.2

pub bounds-steps-j : goal.bounds-steps-j
bounds-steps-j c =
    in_table_lem c.loop-i.invariant c.loop-i-test.true c.action_at-act.ensures c.wide.ensures.0 c.wide-in-loop-i.ensures.0

pub loop-i-preserved : goal.loop-i-preserved
loop-i-preserved c =
    let u = c.loop-i.invariant in
    let h = c.loop-i-test.true in
    let v = c.wide.ensures.0 in
    let p = c.wide-in-loop-i.ensures.0 in
    elim c.if-steps-j.branch [
      | then-steps-j w ↦ rw w.members-is (goes_on u h c.action_at-act.ensures v p w.if-steps-j.true w.add.ensures)
      | else-steps-j w ↦ rw w.members-is (skips u h c.action_at-act.ensures v p w.if-steps-j.false)
    ]

pub returns : goal.returns
returns c = let u = c.loop-i.invariant in record { members_len = u.long; set_of_walks = ends u c.loop-i-test.false }
