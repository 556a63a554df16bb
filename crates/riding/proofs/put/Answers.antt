-- `riding::put` meets its contract: three stores.
-- Assumes nothing.
use mathlib.Core.Path.{refl}
use native.Mathlib.Omega.{arith}
use lib.ListN.{length-set}
use Rattle.riding.proofs.Placing.{three-placed}
use Rattle.riding.proofs.put.Goals as goal

pub bounds-journeys-at-2 : goal.bounds-journeys-at-2
bounds-journeys-at-2 c = simp length-set (omega arith)

pub bounds-journeys-at-3 : goal.bounds-journeys-at-3
bounds-journeys-at-3 c = simp length-set (omega arith)

pub returns : goal.returns
returns c = let a = c.args in (refl, three-placed a.journeys.now a.at a.step a.from a.to c.requires)
