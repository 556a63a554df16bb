-- `skimming::actions` meets its contract: each turn takes an action that has no fault, and what belongs to it.
-- Assumes nothing.
use borrow.Enum.Refused.{opened as keys_of}
use mathlib.Core.Bool.{not}
use mathlib.Core.Path.{◌≡◌, refl, ap, ◌∙◌}
use mathlib.Core.List.{List, []}
use Prim.Native.Nat.{ℕ, ◌+◌, ◌≤◌}
use native.Mathlib.Omega.{arith}
use lib.ListN.{length, get_or}
use borrow.Author.Tests.{not-false}
use Rattle.records.specs.Records.{record_at_lem, body_length_lem, body_lengths}
use Rattle.records.specs.declared.Found.TheVariants.{There}
use Rattle.records.proofs.Laws.{there_lies}
use Rattle.tables.specs.Rows.{seen, seen_all}
use Rattle.judging.proofs.Tests.{not_left}
use Rattle.advancing.specs.declared.Progress.{Progress}
use Rattle.advancing.specs.declared.Step.TheVariants.{On}
use Rattle.advancing.specs.Steps.{after_action}
use Rattle.advancing.proofs.Judged.{goes_on as faultless, stops, went_on}
use Rattle.standing.proofs.Arms.{Answers, action_place}
use Rattle.standing.proofs.Pass.{goes_on}
use Rattle.standing.proofs.Runs.{action-taken}
use Rattle.skimming.proofs.actions.Goals as goal
use Rattle.skimming.proofs.actions.Goals.{Else-not-is_at, In-On, In_default}

-- where an action has been found
is-there : (e : Else-not-is_at) → record_at_lem e.args.file.now e.loop-p.p.at ≡ There 2 (e.loop-p.p.at + 1) (e.loop-p.p.at + 1 + 3)
unfolding body_length_lem body_lengths
is-there e = e.is_at.ensures (omega arith) (omega arith) refl (not-false _ (ap not e.if-not-is_at.false))

inside : (e : Else-not-is_at) → e.loop-p.p.at + 4 ≤ length e.args.file.now
inside e = omega (arith, (there_lies _ _ (is-there e)).whole)

-- an action with a fault leaves the tables as they were
unchanged :
    (c : In_default) (setters : List ℕ)
    → seen setters c.on_action-step.new.acts ≡ (seen_all c.loop-p.acts c.args.rows.now setters).acts
unchanged c setters = c.on_action-step.ensures.by_index setters ∙ rw (stops _ _ _ c.on_action-step.ensures.value (keys_of c.in_default.in_default-own.keys2))

-- .. and one without is entered
next-is : (c : In-On) → c.in-On.next ≡ after_action c.loop-p.p (get_or c.args.file.now (c.loop-p.p.at + 1) 0) (c.loop-p.p.at + 4)
next-is c =
    went_on _ c.loop-p.p.at (after_action c.loop-p.p (get_or c.args.file.now (c.loop-p.p.at + 1) 0) (c.loop-p.p.at + 4)) c.on_action-step.ensures.value c.in-On.is

taken :
    (c : In-On)
    → record_at_lem c.args.file.now c.loop-p.p.at ≡ There 2 (c.loop-p.p.at + 1) (c.loop-p.p.at + 1 + 3)
    → (setters begins : List ℕ)
    → Answers c.args.file.now c.loop-p.p
    (seen_all c.loop-p.acts c.args.rows.now setters) begins
    (seen_all c.on_action-step.new.acts c.args.rows.now setters)
    begins (On c.in-On.next)
taken c there setters begins =
    let ((safe, _), (may, _)) = c.loop-p.invariant in
    rw (next-is c, c.on_action-step.ensures.by_index setters)
    (action-taken c.args.file.now c.loop-p.p (seen_all c.loop-p.acts c.args.rows.now setters) begins safe may there _ _ _ refl refl refl _ refl
    (faultless _ c.loop-p.p.at (after_action c.loop-p.p (get_or c.args.file.now (c.loop-p.p.at + 1) 0) (c.loop-p.p.at + 4)) c.on_action-step.ensures.value c.in-On.in-On-own.keys1))

pub loop-p-init : goal.loop-p-init
loop-p-init c = ((c.requires, omega arith), (not_left c.may_follow.ensures (ap not c.if-not-may_follow.false), λ setters begins h. h))

pub returns-then-not-is_at : goal.returns-then-not-is_at
returns-then-not-is_at c = let ((safe, further), (_, reached)) = c.loop-p.invariant in record { safe = (safe, further); by_index = reached }

pub overflow_add-at : goal.overflow_add-at
overflow_add-at c = omega (arith, inside (goal.at.overflow_add-at c).Else-not-is_at)

pub bounds-file-at : goal.bounds-file-at
bounds-file-at c = omega (arith, inside (goal.at.bounds-file-at c).Else-not-is_at)

pub overflow_add-at-in-loop-p : goal.overflow_add-at-in-loop-p
overflow_add-at-in-loop-p c = omega (arith, inside (goal.at.overflow_add-at-in-loop-p c).Else-not-is_at)

pub bounds-file-at-in-loop-p : goal.bounds-file-at-in-loop-p
bounds-file-at-in-loop-p c = omega (arith, inside (goal.at.bounds-file-at-in-loop-p c).Else-not-is_at)

pub overflow_add-at-in-loop-p-2 : goal.overflow_add-at-in-loop-p-2
overflow_add-at-in-loop-p-2 c = omega (arith, inside (goal.at.overflow_add-at-in-loop-p-2 c).Else-not-is_at)

pub bounds-file-at-in-loop-p-2 : goal.bounds-file-at-in-loop-p-2
bounds-file-at-in-loop-p-2 c = omega (arith, inside (goal.at.bounds-file-at-in-loop-p-2 c).Else-not-is_at)

pub overflow_add-at-in-loop-p-3 : goal.overflow_add-at-in-loop-p-3
overflow_add-at-in-loop-p-3 c = omega (arith, inside (goal.at.overflow_add-at-in-loop-p-3 c).Else-not-is_at)

pub on_action-step-requires : goal.on_action-step-requires
on_action-step-requires c =
    let ((safe, _), (may, _)) = c.loop-p.invariant in
    (safe.bounds.few_vars, omega (arith, action_place _ _ _ _ (seen_all c.loop-p.acts c.args.rows.now []) [] safe (is-there (goal.at.on_action-step-requires c).Else-not-is_at) may))

pub returns-in_default : goal.returns-in_default
returns-in_default c =
    let ((safe, further), (_, reached)) = c.loop-p.invariant in
    record { safe = (safe, further); by_index = λ setters begins h. rw (unchanged (goal.at.returns-in_default c).In_default setters) (reached setters begins h) }

pub whole_action-p-requires : goal.whole_action-p-requires
whole_action-p-requires c =
    let on = (goal.at.whole_action-p-requires c).In-On in
    ((taken on (is-there (goal.at.whole_action-p-requires c).Else-not-is_at) [] []).0.1, ap (λ (p : Progress). p.last) (next-is on))

pub loop-p-smaller : goal.loop-p-smaller
loop-p-smaller c =
    let t = (taken (goal.at.loop-p-smaller c).In-On (is-there (goal.at.loop-p-smaller c).Else-not-is_at) [] []).0 in
    let (safe, further) = c.whole_action-p.ensures.safe in
    omega (arith, t.0, safe.inside, further)

pub loop-p-preserved : goal.loop-p-preserved
loop-p-preserved c =
    let ((safe, before), (_, reached)) = c.loop-p.invariant in
    let on = (goal.at.loop-p-preserved c).In-On in
    let there = is-there (goal.at.loop-p-preserved c).Else-not-is_at in
    let (whole-safe, further) = c.whole_action-p.ensures.safe in (
      (whole-safe, omega (arith, (taken on there [] []).0.0)),
      (
        c.whole_action-p.ensures.last_value,
        λ setters begins h. c.whole_action-p.ensures.by_index setters begins (goes_on safe (reached setters begins h) (taken on there setters begins)),
      ),
    )
