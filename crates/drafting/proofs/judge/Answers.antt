-- `drafting::judge` meets its contract: each list leads on to the next, from the records of all of them to the end, which the first action that repeats decides.
-- Assumes nothing.
use borrow.Enum.Refused.{opened as keys_of}
use mathlib.Core.List.{List, [], ◌++◌, map}
use lib.ListN.{replicate}
use Rattle.study.specs.Reading.{Record, variable}
use Rattle.tables.specs.Rows.{count_column}
use Rattle.standing.specs.Reads.{origin}
use Rattle.spelling.specs.Lists.{Lists, present_record, file_of}
use Rattle.spelling.specs.Lent.{conditions_in, actions_in, errands_in, crews_in, lent}
use Rattle.drafts.specs.Drafts.{BehindVariables, Drafted}
use Rattle.drafts.proofs.Turns.{not_far, others_follow}
use Rattle.drafting.proofs.Refusals.{stopped_judged}
use Rattle.drafting.proofs.Starts.{behind_variables, starts, actions_start}
use Rattle.drafting.proofs.judge.Goals as goal
use Rattle.drafting.proofs.judge.Goals.{In-On, Start}

abbrev lists_of : Start → Lists
lists_of s =
    let a = s.args in
    lent a.situation a.variables.now a.actions.now a.conditions.now a.crews.now a.tasks.now

-- what is to come behind the variables
abbrev behind-of : Start → List Record
behind-of s =
    let a = s.args in
    behind_variables a.situation a.variables.now a.actions.now a.conditions.now a.crews.now a.tasks.now

behind : (s : Start) → BehindVariables (behind-of s)
behind s =
    let a = s.args in
    others_follow (actions_in a.actions.now (conditions_in a.conditions.now)) (crews_in a.crews.now (errands_in a.tasks.now))

begins :
    (s : Start)
    → Drafted (file_of (lists_of s)) (count_column (replicate 32 (replicate 3 0))) origin (present_record s.args.situation ++ (map variable s.args.variables.now ++ behind-of s))
begins s =
    let a = s.args in
    starts a.situation a.variables.now a.actions.now a.conditions.now a.crews.now a.tasks.now

opened :
    (c : In-On)
    → Drafted (file_of ((let a = c.args in
    lent a.situation a.variables.now a.actions.now a.conditions.now a.crews.now a.tasks.now))) (count_column (replicate 32 (replicate 3 0))) c.in-On.opened
    (map variable c.args.variables.now ++ (let a = c.args in
    behind_variables a.situation a.variables.now a.actions.now a.conditions.now a.crews.now a.tasks.now))
opened c = (c.judge_present-by_situation.ensures.by_index_2 _ _ _ ((let begins_here : Drafted (file_of ((let a = c.args in
    lent a.situation a.variables.now a.actions.now a.conditions.now a.crews.now a.tasks.now))) (count_column (replicate 32 (replicate 3 0))) origin (present_record c.args.situation ++ (map variable c.args.variables.now ++ (let a = c.args in
    behind_variables a.situation a.variables.now a.actions.now a.conditions.now a.crews.now a.tasks.now))) = let a = c.args in
    starts a.situation a.variables.now a.actions.now a.conditions.now a.crews.now a.tasks.now in begins_here))).on _ c.in-On.is

pub returns-in_default : goal.returns-in_default
returns-in_default c =
    rw c.refusal.ensures (stopped_judged _ (keys_of c.in_default.in_default-own.keys2) (c.judge_present-by_situation.ensures.by_index_2 _ _ _ (begins (goal.at.returns-in_default c).Start)))

pub judge_variables-by_variables-requires : goal.judge_variables-by_variables-requires
judge_variables-by_variables-requires c =
    let k = (c.judge_present-by_situation.ensures.by_index _).on _ c.in-On.is in
    (k.0, k.1.0)

pub returns-in_default-by_variables : goal.returns-in_default-by_variables
returns-in_default-by_variables c =
    rw c.refusal-in_default-by_variables.ensures (stopped_judged _ (keys_of c.in_default-by_variables.in_default-by_variables-own.keys2) (c.judge_variables-by_variables.ensures.by_index _ _ (behind (goal.at.returns-in_default-by_variables c).Start) (opened (goal.at.returns-in_default-by_variables c).In-On)))

pub judge_actions-by_actions-requires : goal.judge_actions-by_actions-requires
judge_actions-by_actions-requires c =
    let k = c.judge_variables-by_variables.ensures.keeps.on _ c.in-On-by_variables.is in
    (k.0, k.1.0)

pub returns-in_default-by_actions : goal.returns-in_default-by_actions
returns-in_default-by_actions c =
    let begun = (c.judge_variables-by_variables.ensures.by_index _ _ (behind (goal.at.returns-in_default-by_actions c).Start) (opened (goal.at.returns-in_default-by_actions c).In-On)).on _ c.in-On-by_variables.is in
    rw c.refusal-in_default-by_actions.ensures (stopped_judged _ (keys_of c.in_default-by_actions.in_default-by_actions-own.keys2) (c.judge_actions-by_actions.ensures.by_index _ _ begun))

pub judge_crews-by_crews-requires : goal.judge_crews-by_crews-requires
judge_crews-by_crews-requires c =
    let k = c.judge_actions-by_actions.ensures.keeps.on _ c.in-On-by_actions.is in
    (k.0, k.1.0)

pub returns-in_default-by_crews : goal.returns-in_default-by_crews
returns-in_default-by_crews c =
    let begun = (c.judge_variables-by_variables.ensures.by_index _ _ (behind (goal.at.returns-in_default-by_crews c).Start) (opened (goal.at.returns-in_default-by_crews c).In-On)).on _ c.in-On-by_variables.is in
    let acted = (c.judge_actions-by_actions.ensures.by_index _ _ begun).on _ c.in-On-by_actions.is in
    rw c.refusal-in_default-by_crews.ensures (stopped_judged _ (keys_of c.in_default-by_crews.in_default-by_crews-own.keys2) (c.judge_crews-by_crews.ensures.by_index _ acted))

pub first_repeat-repeat-requires : goal.first_repeat-repeat-requires
first_repeat-repeat-requires c =
    let opened = (c.judge_present-by_situation.ensures.by_index []).on _ c.in-On.is in
    let begun = c.judge_variables-by_variables.ensures.keeps.on _ c.in-On-by_variables.is in
    let acted = c.judge_actions-by_actions.ensures.keeps.on _ c.in-On-by_actions.is in
    (opened.1.1, begun.1.1, not_far begun.0, acted.1.1)

pub judge_end-requires : goal.judge_end-requires
judge_end-requires c =
    (c.judge_crews-by_crews.ensures.keeps.on _ c.in-On-by_crews.is).1

pub returns : goal.returns
returns c =
    let begun = (c.judge_variables-by_variables.ensures.by_index _ _ (behind (goal.at.returns c).Start) (opened (goal.at.returns c).In-On)).on _ c.in-On-by_variables.is in
    let acted = (c.judge_actions-by_actions.ensures.by_index _ _ begun).on _ c.in-On-by_actions.is in
    let manned = (c.judge_crews-by_crews.ensures.by_index _ acted).on _ c.in-On-by_crews.is in
    let a = c.args in
    let front = actions_start a.situation a.variables.now a.actions.now a.conditions.now a.crews.now a.tasks.now begun in
    c.judge_end.ensures (lists_of (goal.at.returns c).Start) _ manned (rw front at (c.first_repeat-repeat.ensures (conditions_in a.conditions.now)))
