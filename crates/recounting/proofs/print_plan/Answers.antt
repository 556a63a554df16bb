-- `recounting::print_plan` keeps to what it calls: the tables hold the study that the file says to the crew, and the plan is straight.
-- Assumes nothing.
use native.Mathlib.Omega.{arith}
use mathlib.Core.Path.{refl, ◌∙◌}
use lib.ListN.{get_or}
use Rattle.lawful.proofs.Loads.{heard_lawful}
use Rattle.walks.proofs.Leads.{on_walk_usable}
use Rattle.tables.proofs.Fresh.{fresh_sized}
use Rattle.bits.proofs.Members.{fresh_empty}
use Rattle.stages.proofs.Stages.{held_wishes}
use Rattle.wanters.proofs.Fresh.{fresh_in_fours, fresh_all_empty}
use Rattle.recounting.proofs.Planned.{loads_there, loads_holds, steps_differ, step_on, left_set, wanted_set, held_reasonable}
use Rattle.recounting.proofs.print_plan.Goals as goal

pub load_for-requires : goal.load_for-requires
load_for-requires c = fresh_sized

pub unwrap-loaded-requires : goal.unwrap-loaded-requires
unwrap-loaded-requires c =
    let (t, said, straight) = c.requires.1 in
    loads_there c.args.file.now c.args.crew t _ c.load_for.result said c.load_for.ensures

pub place_all-requires : goal.place_all-requires
place_all-requires c =
    let (t, said, straight) = c.requires.1 in
    (refl, c.requires.0, steps_differ (heard_lawful c.args.file.now c.args.crew t said) (loads_holds c.args.file.now c.args.crew t said (rw c.unwrap-loaded.ensures at c.load_for.ensures)) straight)

pub note_all-requires : goal.note_all-requires
note_all-requires c =
    let (t, said, straight) = c.requires.1 in
    (refl, fresh_in_fours, (t, held_wishes (heard_lawful c.args.file.now c.args.crew t said) (loads_holds c.args.file.now c.args.crew t said (rw c.unwrap-loaded.ensures at c.load_for.ensures)).actions))

pub print_steps-requires : goal.print_steps-requires
print_steps-requires c =
    let (t, said, straight) = c.requires.1 in
    let lawful = heard_lawful c.args.file.now c.args.crew t said in
    let holds = loads_holds c.args.file.now c.args.crew t said (rw c.unwrap-loaded.ensures at c.load_for.ensures) in (
      t,
      record {
        few = c.requires.0;
        there = λ k h. (on_walk_usable (step_on lawful holds straight k h)).there;
        few_actions = lawful.few_actions;
        reasonable =
            held_reasonable lawful holds straight c.gather.new.some _ (c.gather.ensures.1 (fresh_empty 4))
            (c.note_all.ensures.noted t (held_wishes lawful holds.actions) fresh_all_empty) c.place_all.ensures;
        step = λ k h {act} opened.
            let there = (on_walk_usable (step_on lawful holds straight k h)).there in
            let action = holds.actions.action (get_or c.args.plan.now k 0) (omega (arith, holds.actions.count)) in
            record {
              there = there;
              is_var = opened.var ∙ action.var;
              is_pre = opened.pre ∙ action.pre;
              conditions = rw (opened.place, opened.many) action.conditions;
              set_left = left_set lawful holds straight k h;
              set_wanted = wanted_set lawful holds straight k h;
            };
        post = λ k h {act} opened.
            let there = (on_walk_usable (step_on lawful holds straight k h)).there in
            opened.post ∙ (holds.actions.action (get_or c.args.plan.now k 0) (omega (arith, holds.actions.count))).post;
      },
    )
