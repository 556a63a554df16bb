-- `riding::ride` meets its contract: the start floor, then each ride, then the journeys.
-- Assumes nothing.
use native.Mathlib.Omega.{arith}
use lib.ListN.{take, drop}
use Rattle.riding.proofs.Laying.{fresh, plan_kept, start_answered, fault_answered, journeys_answered}
use Rattle.riding.proofs.ride.Goals as goal

pub returns-then-from-start : goal.returns-then-from-start
returns-then-from-start c =
    let a = c.args in
    start_answered a.actions a.rides.now a.start (take a.steps (drop 256 a.room.now)) a.journeys.now c.refusal.result (omega arith) c.refusal.ensures

pub enter-requires : goal.enter-requires
enter-requires c = fresh c.requires.0

pub returns-in-Err : goal.returns-in-Err
returns-in-Err c =
    let a = c.args in
    fault_answered a.actions a.rides.now a.start (take a.steps (drop 256 a.room.now)) a.journeys.now (omega arith) c.in-Err.refused c.in-Err.ensures.value

pub returns : goal.returns
returns c =
    let a = c.args in
    let e = c.in_default.ensures in
    journeys_answered a.actions a.rides.now a.start (take a.steps (drop 256 a.room.now)) a.journeys.now (omega arith) _
    _ _ c.lay.result _ e.value e.holds c.requires.2
    (rw (plan_kept a.steps a.room.now _ e.sized.1) at c.lay.ensures)
