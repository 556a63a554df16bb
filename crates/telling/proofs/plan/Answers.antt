-- `telling::plan` meets its contract: the first line, then a line for each step.
-- Assumes nothing.
use mathlib.Core.Path.{refl, sym, ◌∙◌}
use mathlib.Core.List.{append-nil}
use native.Mathlib.Omega.{arith}
use lib.ListN.{length}
use Rattle.tables.specs.Rows.{var_column, pre_column, post_column}
use Rattle.telling.specs.Text.{first_line, step_lines, shown_in}
use Rattle.telling.proofs.Shown.{text_more, text_all}
use Rattle.telling.proofs.plan.Goals as goal

pub loop-k-init : goal.loop-k-init
unfolding step_lines
loop-k-init c =
    (omega arith, (refl, c.first-at.ensures.1 ∙ sym (append-nil _)))

pub step-at-requires : goal.step-at-requires
step-at-requires c = (omega arith, omega arith, omega (arith, c.first-at.auto.out))

pub loop-k-preserved : goal.loop-k-preserved
loop-k-preserved c =
    let shown = shown_in (var_column c.args.acts.now) (pre_column c.args.acts.now) (post_column c.args.acts.now) in
    let list = c.args.list.now in
    let opened = c.action_at-a.ensures in
    let said = rw (opened.var, opened.pre, opened.post, c.from-action.ensures) at c.step-at.ensures.1.text in (
      omega arith,
      (
        c.step-at.auto.out ∙ c.loop-k.invariant.1.0,
        text_more shown (first_line (length list)) list c.loop-k.k (omega arith) said c.loop-k.invariant.1.1,
      ),
    )

pub returns : goal.returns
returns c =
    let list = c.args.list.now in
    let shown = shown_in (var_column c.args.acts.now) (pre_column c.args.acts.now) (post_column c.args.acts.now) in
    (omega arith, text_all shown list c.loop-k.k (omega arith) c.loop-k.invariant.1.1)
