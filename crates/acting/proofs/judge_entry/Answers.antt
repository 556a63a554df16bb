-- `acting::judge_entry` meets its contract: the action is judged, then the conditions that it takes, then its situations.
-- Assumes nothing.
use borrow.Enum.Refused.{opened as keys_of}
use native.Mathlib.Omega.{arith}
use borrow.Author.Rules.{rules}
use Rattle.drafts.proofs.Turns.{not_far}
use Rattle.drafts.proofs.Stops.{keeps_more, stopped_keeps, stopped_leads}
use Rattle.drafts.proofs.LentBytes.{action-lent}
use Rattle.acting.proofs.judge_entry.Goals as goal

pub returns-in_default : goal.returns-in_default
returns-in_default c =
    let a = c.args in record {
      keeps = stopped_keeps (keys_of c.in_default.in_default-own.keys2);
      by_index = λ file rest h. stopped_leads (keys_of c.in_default.in_default-own.keys2)
          (c.judge_action-by_action.ensures.by_index file _ (rw (action-lent a.actions.now a.i a.conditions.now a.used rest c.requires.2) at h));
    }

pub judge_conditions-by_conditions-requires : goal.judge_conditions-by_conditions-requires
judge_conditions-by_conditions-requires c =
    let k = c.judge_action-by_action.ensures.keeps.on _ c.in-On.is in
    (k.0, omega (arith, k.1.0), omega (arith, k.1.0), search rules)

pub returns-in_default-by_conditions : goal.returns-in_default-by_conditions
returns-in_default-by_conditions c =
    let a = c.args in record {
      keeps = stopped_keeps (keys_of c.in_default-by_conditions.in_default-by_conditions-own.keys2);
      by_index = λ file rest h. stopped_leads (keys_of c.in_default-by_conditions.in_default-by_conditions-own.keys2)
          (c.judge_conditions-by_conditions.ensures.by_index file _
          ((c.judge_action-by_action.ensures.by_index file _ (rw (action-lent a.actions.now a.i a.conditions.now a.used rest c.requires.2) at h)).on _ c.in-On.is));
    }

pub overflow_add-i-4 : goal.overflow_add-i-4
overflow_add-i-4 c =
    omega (arith, c.requires.2)

pub judge_times-requires : goal.judge_times-requires
judge_times-requires c =
    let k = c.judge_conditions-by_conditions.ensures.keeps.on _ c.in-On-by_conditions.is in
    (k.1.0, k.1.1, not_far k.0)

pub returns : goal.returns
returns c =
    let a = c.args in
    let k = c.judge_conditions-by_conditions.ensures.keeps.on _ c.in-On-by_conditions.is in
    let acted = c.judge_action-by_action.ensures.keeps.on _ c.in-On.is in
    let e = c.judge_times.ensures in record {
      keeps = keeps_more (e.by_index _ k.0) (λ q w. (w.0, k.1.2, omega (arith, w.1, k.1.3, acted.1.2)));
      by_index = λ file rest h. e.by_index_2 file _ _
          ((c.judge_conditions-by_conditions.ensures.by_index file _
          ((c.judge_action-by_action.ensures.by_index file _ (rw (action-lent a.actions.now a.i a.conditions.now a.used rest c.requires.2) at h)).on _ c.in-On.is)
          ).on _ c.in-On-by_conditions.is);
    }
