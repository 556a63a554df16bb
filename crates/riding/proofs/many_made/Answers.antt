-- `riding::many_made` meets its contract: one, or one more before the ride.
-- Assumes nothing.
use mathlib.Core.Path.{sym, ap}
use native.Mathlib.Omega.{arith}
use lib.ListN.{length}
use Rattle.rides.specs.Journeys.{Journey}
use Rattle.riding.proofs.Steps.{makes_one, makes_two}
use Rattle.riding.proofs.many_made.Goals as goal

pub returns-then-floor-from : goal.returns-then-floor-from
returns-then-floor-from c =
    let a = c.args in
    (omega arith, λ step i to. sym (ap (length {A = Journey}) (makes_one i a.from to step a.floor c.if-floor-from.true)))

pub returns : goal.returns
returns c =
    let a = c.args in
    (omega arith, λ step i to. sym (ap (length {A = Journey}) (makes_two i a.from to step a.floor c.if-floor-from.false)))
