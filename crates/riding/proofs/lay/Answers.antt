-- `riding::lay` meets its contract: the journeys are counted, and written where they have room.
-- Assumes nothing.
use native.Mathlib.Omega.{arith}
use Rattle.rides.specs.Journeys.{journeys_from}
use Rattle.rides.proofs.Bytes.{length_bytes}
use Rattle.riding.specs.Tables.{ride_in}
use Rattle.riding.proofs.Laying.{short_laid, fits_laid}
use Rattle.riding.proofs.lay.Goals as goal

pub returns-then-journeys-many : goal.returns-then-journeys-many
returns-then-journeys-many c =
    short_laid _ c.args.journeys.now c.count-many.result c.refusal.result c.count-many.ensures.1 c.if-journeys-many.true c.refusal.ensures

pub write-requires : goal.write-requires
write-requires c =
    (c.requires, omega (arith, c.if-journeys-many.false, c.count-many.ensures.1, length_bytes (journeys_from (ride_in c.args.froms.now c.args.tos.now) 0 c.args.start c.args.plan.now)))

pub returns : goal.returns
returns c =
    fits_laid _ c.args.journeys.now _ c.count-many.result c.done.result c.count-many.ensures.1 c.if-journeys-many.false c.done.ensures c.write.ensures
