-- `finishing::run_from` meets its contract: the steps, then the goal.
-- Assumes nothing.
use mathlib.Core.Path.{sym, ◌∙◌}
use Rattle.std.proofs.lemmas.Result.{err_from_is_err_and}
use Rattle.study.specs.Study.{Study}
use Rattle.stepping.specs.Stepping.{Went}
use Rattle.barring.specs.Telling.{Prepared}
use Rattle.finishing.proofs.Finish.{stopped, off_goal, at_goal_lem}
use Rattle.finishing.proofs.run_from.Goals as goal
use Rattle.finishing.proofs.run_from.Goals.{After-do_steps}

-- the steps that were done
went :
    (c : After-do_steps) {t : Study} → Prepared c.args.file.now c.args.n c.args.actions c.args.acts.now c.args.vars.now t
    → Went t c.args.plan.now c.args.current.now c.do_steps.new.state c.do_steps.result
went c p = c.do_steps.ensures _ p.ready p.counted c.requires.1.long

pub returns-in_err-do_steps : goal.returns-in_err-do_steps
returns-in_err-do_steps c =
    let q = err_from_is_err_and c.from_residual.result c.from_residual.ensures.1 in
    λ t p. rw (q.1, q.2) (stopped p c.requires.1 _ (rw c.in_err-do_steps.was at (went (goal.at.returns-in_err-do_steps c).After-do_steps p)))

pub returns-in-Some : goal.returns-in-Some
returns-in-Some c =
    λ t p.
    rw c.refusal.ensures
    (off_goal p c.requires.1 _ _ (rw c.in_ok-do_steps.was at (went (goal.at.returns-in-Some c).After-do_steps p))
    (sym c.in-Some.is ∙ c.away.ensures _ p.tasks))

pub returns : goal.returns
returns c =
    λ t p.
    at_goal_lem p c.requires.1 _ _ (rw c.in_ok-do_steps.was at (went (goal.at.returns c).After-do_steps p))
    (sym c.in_default.is ∙ c.away.ensures _ p.tasks)
