-- `wanting::want_all` meets its contract: each turn passes one action and keeps `Underway`.
-- Assumes nothing.
use mathlib.Core.Path.{◌∙◌}
use Rattle.wanting.proofs.AllActions.{begins, skips, goes_on, breaks_off, ends}
use Rattle.wanting.proofs.want_all.Goals as goal
use Rattle.wanting.proofs.want_all.Goals.{then-left-i+in_default, else-left-i}

pub loop-i-init : goal.loop-i-init
loop-i-init c = begins c.requires.0 c.requires.1 c.requires.2

pub returns-in-Err-clause-wants_all : goal.returns-in-Err-clause-wants_all
returns-in-Err-clause-wants_all c =
    let row = c.action_at-act.ensures in
    breaks_off c.loop-i.invariant c.loop-i-test.true (c.from.ensures ∙ row.var) (c.from-in-loop-i.ensures ∙ row.pre) c.if-left-i.true
    (rw (c.in-Err.is, row.place, row.many) at c.want.ensures.wants_each)

pub loop-i-preserved : goal.loop-i-preserved
loop-i-preserved c =
    let u = c.loop-i.invariant in
    let h = c.loop-i-test.true in
    let row = c.action_at-act.ensures in
    elim c.if-left-i.branch [
      | then-left-i+in_default w ↦
          rw w.wants-is
          (goes_on u h (c.from.ensures ∙ row.var) (c.from-in-loop-i.ensures ∙ row.pre) w.if-left-i.true
          (w.want.ensures.wants_len, rw (w.in_default.is, row.place, row.many) at w.want.ensures.wants_each))
      | else-left-i w ↦ rw w.wants-is (skips u h (c.from.ensures ∙ row.var) (c.from-in-loop-i.ensures ∙ row.pre) w.if-left-i.false)
    ]

pub returns-clause-wants_all : goal.returns-clause-wants_all
returns-clause-wants_all c = ends c.loop-i.invariant c.loop-i-test.false
