-- `stranding::gather` meets its contract: each turn passes one action and keeps `Underway`.
-- Assumes nothing.
use Rattle.std.proofs.Common.{◌≡◌, ◌∙◌, get_or, arith}
use Rattle.tables.specs.Rows.{var_column, pre_column}
use Rattle.stranding.proofs.Gathering.{skips, goes_on, ends}
use Rattle.stranding.proofs.gather.Goals as goal
use Rattle.stranding.proofs.gather.Goals.{After-wide-in-loop-i, then-steps-wide, else-steps-wide}

-- the variable and pre of the turn's action, as they are read
module _ (w : After-wide-in-loop-i) where
  is_var :
      w.wide.result ≡ get_or (var_column w.args.acts.now) w.loop-i.i 0
  is_var = w.wide.ensures.0 ∙ w.action_at-act.ensures.var

  is_pre : w.wide-in-loop-i.result ≡ get_or (pre_column w.args.acts.now) w.loop-i.i 0
  is_pre = w.wide-in-loop-i.ensures.0 ∙ w.action_at-act.ensures.pre

pub bounds-steps-wide : goal.bounds-steps-wide
bounds-steps-wide c =
    omega (arith, c.requires.2 _ c.loop-i-test.true, is_var (goal.at.bounds-steps-wide c).After-wide-in-loop-i, is_pre (goal.at.bounds-steps-wide c).After-wide-in-loop-i)

pub loop-i-preserved : goal.loop-i-preserved
loop-i-preserved c =
    let u = c.loop-i.invariant in
    let h = c.loop-i-test.true in
    let read = (goal.at.loop-i-preserved c).After-wide-in-loop-i in
    elim c.if-steps-wide.branch [
      | then-steps-wide w ↦ rw w.set-is (goes_on u h (is_var read) (is_pre read) w.if-steps-wide.true w.add.ensures)
      | else-steps-wide w ↦ rw w.set-is (skips u h (is_var read) (is_pre read) w.if-steps-wide.false)
    ]

pub returns-clause-by_index : goal.returns-clause-by_index
returns-clause-by_index c = ends c.loop-i.invariant c.loop-i-test.false
