-- `dispatcher::journeys` meets its contract: planning refuses, or the plan that it left in the room is travelled.
-- Assumes nothing.
use mathlib.Core.Path.{◌≡◌}
use Rattle.dispatcher.proofs.Planned.{InPlace, refusal_travels, in_place}
use Rattle.dispatcher.proofs.journeys.Goals as goal
use Rattle.dispatcher.proofs.journeys.Goals.{After-plan_aside-planned}

-- what planning came to
stands :
    (p : After-plan_aside-planned) → p.plan_aside-planned.result.number ≡ 0
    → InPlace p.args.file.now p.args.crew p.args.ranks.now p.plan_aside-planned.result p.plan_aside-planned.new.room
stands p =
    in_place p.args.file.now p.args.crew p.args.ranks.now p.plan_aside-planned.result p.plan_aside-planned.new.room
    p.plan_aside-planned.ensures.room_len p.plan_aside-planned.ensures.plan_allows

pub returns-then-planned-ne0 : goal.returns-then-planned-ne0
returns-then-planned-ne0 c =
    let a = c.args in
    let p = c.plan_aside-planned in
    refusal_travels a.file.now a.crew a.ranks.now p.result p.new.room p.ensures.room_len p.ensures.plan_allows
    c.if-planned-ne0.true a.rides.now a.start a.journeys.now

pub ride-requires : goal.ride-requires
ride-requires c =
    let s = stands (goal.at.ride-requires c).After-plan_aside-planned c.if-planned-ne0.false in
    (s.long, s.few, s.low)

pub returns : goal.returns
returns c =
    let a = c.args in
    let s = stands (goal.at.returns c).After-plan_aside-planned c.if-planned-ne0.false in
    s.travels a.rides.now a.start a.journeys.now c.ride.result _ c.ride.ensures
