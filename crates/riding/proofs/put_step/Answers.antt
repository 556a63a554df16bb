-- `riding::put_step` meets its contract: the ride, or the journey before it and the ride.
-- Assumes nothing.
use native.Mathlib.Omega.{arith}
use Rattle.riding.proofs.Placing.{room_one, room_two, step_one, step_two}
use Rattle.riding.proofs.put_step.Goals as goal

pub put-requires : goal.put-requires
put-requires c =
    let a = c.args in
    room_one 0 a.from a.to a.step a.floor a.journeys.now a.at (c.requires 0) c.if-floor-from.true

pub returns-then-floor-from : goal.returns-then-floor-from
returns-then-floor-from c =
    let a = c.args in
    λ i. step_one i a.from a.to a.step a.floor a.journeys.now a.at c.if-floor-from.true c.put.ensures

pub put-next-requires : goal.put-next-requires
put-next-requires c =
    let a = c.args in
    let room = room_two 0 a.from a.to a.step a.floor a.journeys.now a.at (c.requires 0) c.if-floor-from.false in
    omega (arith, room)

pub put-requires-2 : goal.put-requires-2
put-requires-2 c =
    let a = c.args in
    let room = room_two 0 a.from a.to a.step a.floor a.journeys.now a.at (c.requires 0) c.if-floor-from.false in
    omega (arith, room, c.put-next.ensures.0, c.put-next.auto.journeys)

pub returns : goal.returns
returns c =
    let a = c.args in
    let room = room_two 0 a.from a.to a.step a.floor a.journeys.now a.at (c.requires 0) c.if-floor-from.false in
    λ i. step_two i a.from a.to a.step a.floor a.journeys.now a.at c.if-floor-from.false room c.put-next.ensures c.put-2.ensures
