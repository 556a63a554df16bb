-- `stages::plan_drawn` meets its contract: the drawn list stands in the front of the ranks, and planning goes on with it.
-- Assumes nothing.
use mathlib.Core.Path.{sym, ap, ◌∙◌}
use lib.ListN.{length}
use Rattle.draw.proofs.Drawn.{drawn_is_rank_list}
use Rattle.stages.proofs.Drawing.{drawn_fine, drawn_in_front}
use Rattle.stages.proofs.Stages.{known_given}
use Rattle.stages.proofs.plan_drawn.Goals as goal

pub slice_bounds-plan_loaded-end : goal.slice_bounds-plan_loaded-end
slice_bounds-plan_loaded-end c =
    let (t, known) = c.requires.1 in
    sym (ap length (drawn_in_front known _ c.draw.ensures.1) ∙ (drawn_is_rank_list c.args.seed c.args.actions).an_entry_for_each)

pub plan_loaded-requires : goal.plan_loaded-requires
plan_loaded-requires c =
    let (t, known) = c.requires.1 in
    (c.requires.0, (t, known_given _ known (rw (drawn_in_front known _ c.draw.ensures.1) (drawn_fine c.args.seed c.args.actions))))

pub returns : goal.returns
returns c t known =
    let front = drawn_in_front known _ c.draw.ensures.1 in
    rw (← front) (c.plan_loaded.ensures t (known_given _ known (rw front (drawn_fine c.args.seed c.args.actions))))
