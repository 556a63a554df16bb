-- `planner::plan_seeded` meets its contract: what is loaded is what the file says to the crew, and its tables and seed are given to planning.
-- Assumes nothing.
use mathlib.Core.Path.{refl}
use Rattle.tables.proofs.Fresh.{fresh_sized}
use Rattle.planner.proofs.Loading.{loaded_known, seeded_plans}
use Rattle.planner.proofs.plan_seeded.Goals as goal

pub load_for-requires : goal.load_for-requires
load_for-requires c = fresh_sized

pub returns-in-Err : goal.returns-in-Err
returns-in-Err c =
    let said = rw c.in-Err.is at c.load_for.ensures in
    rw said (c.from.ensures, refl)

pub plan_drawn-requires : goal.plan_drawn-requires
plan_drawn-requires c =
    let (t, said, holds) = rw c.in-Ok.is at c.load_for.ensures in
    (holds.sized.setters, (t, loaded_known _ said holds))

pub returns : goal.returns
returns c =
    let (t, said, holds) = rw c.in-Ok.is at c.load_for.ensures in
    seeded_plans _ _ said holds.seed holds.actions.count (c.plan_drawn.ensures t (loaded_known _ said holds))
