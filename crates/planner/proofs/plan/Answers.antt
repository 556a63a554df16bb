-- `planner::plan` meets its contract: what is loaded is what the file says to the crew, and its tables are given to planning.
-- Assumes nothing.
use mathlib.Core.Path.{refl, sym, ◌∙◌}
use Rattle.tables.proofs.Fresh.{fresh_sized}
use Rattle.handing.proofs.NotRanked.{not_ranked_lem}
use Rattle.stages.proofs.Stages.{known_given}
use Rattle.planner.proofs.Loading.{loaded_known}
use Rattle.planner.proofs.plan.Goals as goal

pub load_for-requires : goal.load_for-requires
load_for-requires c = fresh_sized

pub returns-in-Err : goal.returns-in-Err
returns-in-Err c =
    let said = rw c.in-Err.is at c.load_for.ensures in
    rw said (c.from.ensures, refl)

pub returns-in-Err-test : goal.returns-in-Err-test
returns-in-Err-test c =
    let (t, said, holds) = rw c.in-Ok.is at c.load_for.ensures in
    rw (said, c.unranked.ensures)
    (not_ranked_lem _ (rw (← holds.actions.count) (sym c.test.ensures ∙ c.in-Err-test.is)))

pub plan_loaded-requires : goal.plan_loaded-requires
plan_loaded-requires c =
    let (t, said, holds) = rw c.in-Ok.is at c.load_for.ensures in
    (holds.sized.setters, (t, known_given _ (loaded_known _ said holds) (sym c.test.ensures ∙ c.in_default.is)))

pub returns : goal.returns
returns c =
    let (t, said, holds) = rw c.in-Ok.is at c.load_for.ensures in
    rw said (c.plan_loaded.ensures t (known_given _ (loaded_known _ said holds) (sym c.test.ensures ∙ c.in_default.is)))
