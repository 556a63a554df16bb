-- `riding::write` meets its contract: each turn passes a step without a ride, or puts the journeys of one with a ride behind the others.
-- Assumes nothing.
use native.Mathlib.Omega.{arith}
use Rattle.riding.proofs.Placing.{none_written, one_passed, room_any, one_written, all_written}
use Rattle.riding.proofs.write.Goals.{then-from, else-from}
use Rattle.riding.proofs.write.Goals as goal

pub loop-k-init : goal.loop-k-init
loop-k-init c = none_written

pub put_step-at-requires : goal.put_step-at-requires
put_step-at-requires c =
    room_any c.loop-k.invariant c.requires.1 (omega arith) c.from-i.ensures c.if-from.true

pub loop-k-preserved : goal.loop-k-preserved
loop-k-preserved c =
    let i = c.from-i.result in
    elim c.if-from.branch [
      | then-from w ↦
          rw (w.journeys-is, w.floor-is, w.at-is)
          (one_written c.loop-k.invariant c.requires.1 (omega arith) c.from-i.ensures w.if-from.true (w.put_step-at.ensures i).0 (w.put_step-at.ensures i).1 w.put_step-at.auto.journeys)
      | else-from w ↦
          rw (w.journeys-is, w.floor-is, w.at-is) (one_passed c.loop-k.invariant c.requires.1 (omega arith) c.from-i.ensures w.if-from.false)
    ]

pub returns : goal.returns
returns c =
    all_written c.loop-k.invariant c.requires.1 c.loop-k-test.false
