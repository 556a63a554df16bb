-- `acting::judge_actions` meets its contract: each turn judges one action with its conditions and situations, and those behind it come next; bytes and conditions that are left are refused as one action more.
-- Assumes nothing.
use borrow.Enum.Refused.{opened as keys_of}
use Prim.Native.Nat.{◌+◌, ◌-◌, ◌≤◌, ◌<◌}
use native.Mathlib.Omega.{arith}
use lib.ListN.{length}
use borrow.Author.Tests.{eqb-true}
use Rattle.drafts.proofs.Turns.{first_action, behind_actions}
use Rattle.drafts.proofs.Stops.{on_keeps, on_leads, keeps_more, stopped_keeps, stopped_leads, leads_nowhere}
use Rattle.drafts.proofs.LentBytes.{no_action_lem, action-unlent}
use Rattle.acting.proofs.judge_actions.Goals.{else-i-actions-via-then-i-actions+else-used-conditions, else-i-actions-via-else-i-actions}
use Rattle.acting.proofs.judge_actions.Goals as goal

pub loop-i-init : goal.loop-i-init
loop-i-init c = let (bounds, first) = c.requires in (bounds, ((first_action first, omega arith, omega arith, omega arith), λ file rest h. h))

pub judge_entry-step-requires : goal.judge_entry-step-requires
judge_entry-step-requires c = let i = c.loop-i.invariant in (i.0, i.1.0.0, omega arith, i.1.0.2)

pub returns-in_default : goal.returns-in_default
returns-in_default c =
    let l = c.loop-i in record { keeps = stopped_keeps (keys_of c.in_default.in_default-own.keys2); by_index = λ file rest h. stopped_leads (keys_of c.in_default.in_default-own.keys2) (c.judge_entry-step.ensures.by_index file rest (l.invariant.1.1 file rest h)) }

pub overflow_add-used : goal.overflow_add-used
overflow_add-used c =
    let k = c.judge_entry-step.ensures.keeps.on _ c.in-On.is in
    omega (arith, k.1.1, c.wide.ensures.0)

pub loop-i-preserved : goal.loop-i-preserved
loop-i-preserved c =
    let l = c.loop-i in
    let e = c.judge_entry-step.ensures in
    let k = e.keeps.on _ c.in-On.is in
    rw c.wide.ensures.0 (
      k.0,
      (
        (k.1.0, omega arith, omega (arith, k.1.1), omega (arith, k.1.2, l.invariant.1.0.3)),
        λ file rest h. (e.by_index file rest (l.invariant.1.1 file rest h)).on _ c.in-On.is,
      ),
    )

pub returns-then-used-conditions : goal.returns-then-used-conditions
returns-then-used-conditions c =
    let l = c.loop-i in
    let a = c.args in
    let no_byte : length a.actions.now ≤ l.i = omega arith in
    let no_other : length a.conditions.now ≤ l.used = omega (arith, eqb-true) in
    record { keeps = on_keeps l.invariant.0 (behind_actions _ l.invariant.1.0.0, omega (arith, l.invariant.1.0.3, l.invariant.0.few_actions)); by_index = λ file rest h. on_leads (rw (no_action_lem _ l.i _ l.used rest no_byte no_other) at (l.invariant.1.1 file rest h)) }

pub judge_action-requires : goal.judge_action-requires
judge_action-requires c = let i = c.loop-i.invariant in (i.0, i.1.0.0)

pub returns : goal.returns
returns c =
    let l = c.loop-i in
    let a = c.args in
    let few : length a.actions.now < l.i + 5 = omega arith in
    let some : length a.actions.now ≤ l.i → length a.conditions.now ≤ l.used → ⊥ =
    λ x y.
    elim c.else-i-actions.branch [
      | else-i-actions-via-then-i-actions+else-used-conditions w ↦ w.if-used-conditions.false (omega arith)
      | else-i-actions-via-else-i-actions w ↦ w.if-i-actions.false (omega arith)
    ] in
    let e = c.judge_action.ensures in record {
      keeps = keeps_more e.keeps (λ q k. absurd (omega (arith, k.1)));
      by_index = λ file rest h. let u = action-unlent a.actions.now l.i a.conditions.now l.used rest few some in
          leads_nowhere (λ q on. omega (arith, (e.keeps.on q on).1.1)) (e.by_index file u.0 (rw u.1 at (l.invariant.1.1 file rest h)));
    }
