-- `writing::write` meets its contract: the lists are put one after another; they were lent whole, since their file loads.
-- Assumes nothing.
use Rattle.spelling.proofs.Whole.{lent_whole}
use Rattle.writing.proofs.Parts.{situation_fits, variables_fit, actions_fit, crews_fit, all_put}
use Rattle.writing.proofs.write.Goals as goal

pub put_unless-variables_at-requires : goal.put_unless-variables_at-requires
put_unless-variables_at-requires c =
    let a = c.args in
    situation_fits a.situation a.variables.now a.actions.now a.conditions.now a.crews.now a.tasks.now a.file.now c.requires.1

pub put_variables-actions_at-requires : goal.put_variables-actions_at-requires
put_variables-actions_at-requires c =
    let a = c.args in
    variables_fit a.situation a.variables.now a.actions.now a.conditions.now a.crews.now a.tasks.now a.file.now c.requires.1
    c.put_unless-variables_at.ensures

pub put_actions-crews_at-requires : goal.put_actions-crews_at-requires
put_actions-crews_at-requires c =
    let a = c.args in
    let whole = lent_whole _ _ _ _ _ _ _ c.requires.0.1 in (
      whole.actions_whole,
      whole.conditions_taken,
      actions_fit a.situation a.variables.now a.actions.now a.conditions.now a.crews.now a.tasks.now a.file.now c.requires.1
          c.put_unless-variables_at.ensures c.put_variables-actions_at.ensures,
    )

pub put_crews-requires : goal.put_crews-requires
put_crews-requires c =
    let a = c.args in
    let whole = lent_whole _ _ _ _ _ _ _ c.requires.0.1 in (
      whole.some_crew,
      whole.crews_whole,
      whole.tasks_taken,
      crews_fit a.situation a.variables.now a.actions.now a.conditions.now a.crews.now a.tasks.now a.file.now c.requires.1
          c.put_unless-variables_at.ensures c.put_variables-actions_at.ensures c.put_actions-crews_at.ensures,
    )

pub returns : goal.returns
returns c =
    let a = c.args in
    all_put a.situation a.variables.now a.actions.now a.conditions.now a.crews.now a.tasks.now a.file.now c.requires.1
    c.put_unless-variables_at.ensures c.put_variables-actions_at.ensures c.put_actions-crews_at.ensures c.put_crews.ensures
