-- `following::take` meets its contract: what the row's action lacks is told, and where it lacks nothing its variable is set.
-- Assumes nothing.
use Rattle.std.proofs.Common.{ℕ, ◌<◌, arith}
use Rattle.study.specs.Study.{Study, action_at}
use Rattle.barring.specs.Telling.{Tells, Ready}
use Rattle.following.proofs.Tables.{takes_none, takes_it}
use borrow.Author.Rules.{rules}
use Rattle.following.proofs.take.Goals as goal
use Rattle.following.proofs.take.Goals.{After-action_at-act}

-- the action's row was opened
module _ (c : After-action_at-act) where
  told :
      {t : Study} {actions : ℕ} → Ready c.args.file.now actions c.args.acts.now t → c.args.action < actions
      → Tells c.args.file.now c.action_at-act.result (action_at t.actions c.args.action)
  told r there = r.action c.args.action there (rw c.wide.ensures.0 at c.action_at-act.ensures)

  here : Tells c.args.file.now c.action_at-act.result (action_at c.requires.0.actions c.args.action)
  here = told c.requires.2 c.requires.3

pub barred-lack-requires : goal.barred-lack-requires
barred-lack-requires c = (_, here c)

pub bounds-state-wide : goal.bounds-state-wide
bounds-state-wide c =
    let o = here (goal.at.bounds-state-wide c).After-action_at-act in
    omega (arith, c.wide-then-is_none.ensures.0, o.var, o.small)

pub returns-then-is_none : goal.returns-then-is_none
returns-then-is_none c =
    λ t actions ready there long.
    let tells = told (goal.at.returns-then-is_none c).After-action_at-act ready there in
    takes_it ready c.args.action there c.args.state.now long tells c.wide-then-is_none.ensures.0
    c.barred-lack.result (search rules) (c.barred-lack.ensures _ tells)

pub returns-else-is_none : goal.returns-else-is_none
returns-else-is_none c =
    λ t actions ready there long.
    takes_none ready c.args.action there c.args.state.now long c.barred-lack.result (search rules)
    (c.barred-lack.ensures _ (told (goal.at.returns-else-is_none c).After-action_at-act ready there))
