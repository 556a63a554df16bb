-- `riding::count` meets its contract: each turn passes a step without a ride, or counts the journeys of one with a ride.
-- Assumes nothing.
use native.Mathlib.Omega.{arith}
use lib.ListN.{get_or}
use Rattle.riding.proofs.Steps.{one_passed, one_counted, all_counted}
use Rattle.riding.proofs.count.Goals.{then-begins, else-begins}
use Rattle.riding.proofs.count.Goals as goal

pub loop-action-preserved : goal.loop-action-preserved
loop-action-preserved c =
    let i = c.from-i.result in
    let tos = c.args.tos.now in
    elim c.if-begins.branch [
      | then-begins w ↦
          rw (w.floor-is, w.many-is)
          (one_counted c.loop-action.invariant (omega arith) c.from-i.ensures w.if-begins.true w.many_made-many.ensures.0 (w.many_made-many.ensures.1 c.loop-action.action-index i (get_or tos i 0)))
      | else-begins w ↦ rw (w.floor-is, w.many-is) (one_passed c.loop-action.invariant (omega arith) c.from-i.ensures w.if-begins.false)
    ]

pub returns : goal.returns
returns c = all_counted c.loop-action.invariant c.loop-action-test.false c.requires
