-- `wanters::note_all` meets its contract: each turn passes one action and keeps `Underway`.
-- Assumes nothing.
use mathlib.Core.Path.{sym, ◌∙◌}
use Rattle.wanters.proofs.AllActions.{skips, goes_on}
use Rattle.wanters.proofs.note_all.Goals as goal
use Rattle.wanters.proofs.note_all.Goals.{then-contains, else-contains}

pub loop-i-preserved : goal.loop-i-preserved
loop-i-preserved c =
    let u = c.loop-i.invariant in
    let h = c.loop-i-test.true in
    elim c.if-contains.branch [
      | then-contains w ↦
          rw w.wanters-is
          (goes_on u h (sym c.contains.ensures ∙ w.if-contains.true)
          (w.note.ensures.wanters_len, rw (w.action_at-act.ensures.place, w.action_at-act.ensures.many) at w.note.ensures.x_after))
      | else-contains w ↦ rw w.wanters-is (skips u h (sym c.contains.ensures ∙ w.if-contains.false))
    ]
