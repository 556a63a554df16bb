-- `skimming::variables` meets its contract: each turn takes one variable.
-- Assumes nothing.
use borrow.Enum.Refused.{opened as keys_of}
use mathlib.Core.Bool.{not}
use mathlib.Core.Path.{◌≡◌, refl, ap, ◌∙◌}
use mathlib.Core.List.{List, []}
use Prim.Native.Nat.{ℕ, ◌+◌, ◌≤◌}
use native.Mathlib.Omega.{arith}
use lib.ListN.{length}
use borrow.Author.Tests.{not-false}
use Rattle.records.specs.Records.{record_at_lem, body_length_lem, body_lengths}
use Rattle.records.specs.declared.Found.TheVariants.{There}
use Rattle.records.proofs.Laws.{there_lies}
use Rattle.tables.specs.Tables.{ActionTables}
use Rattle.tables.specs.Rows.{count_column, seen}
use Rattle.judging.proofs.Tests.{not_left}
use Rattle.advancing.specs.declared.Progress.{Progress}
use Rattle.advancing.specs.declared.Step.TheVariants.{On}
use Rattle.advancing.specs.Steps.{after_variable}
use Rattle.advancing.proofs.Judged.{goes_on as faultless, stops, went_on}
use Rattle.standing.proofs.Arms.{Answers}
use Rattle.standing.specs.Halfway.{beside}
use Rattle.standing.proofs.Pass.{goes_on}
use Rattle.standing.proofs.Runs.{may_variable, variable-taken}
use Rattle.skimming.proofs.variables.Goals as goal
use Rattle.skimming.proofs.variables.Goals.{Else-not-is_at, In-On, In_default}

-- where a variable has been found
is-there : (e : Else-not-is_at) → record_at_lem e.args.file.now e.loop-p.p.at ≡ There 1 (e.loop-p.p.at + 1) (e.loop-p.p.at + 1 + 1)
unfolding body_length_lem body_lengths
is-there e = e.is_at.ensures (omega arith) (omega arith) refl (not-false _ (ap not e.if-not-is_at.false))

inside : (e : Else-not-is_at) → e.loop-p.p.at + 2 ≤ length e.args.file.now
inside e = omega (arith, (there_lies _ _ (is-there e)).whole)

-- a variable with a fault leaves the tables as they were
unchanged :
    (c : In_default)
    → count_column c.on_variable-step.new.rows ≡ count_column c.loop-p.rows
unchanged c = c.on_variable-step.ensures.rows_after.0 ∙ rw (stops _ _ _ c.on_variable-step.ensures.value (keys_of c.in_default.in_default-own.keys2))

-- .. and one without is entered
next-is : (c : In-On) → c.in-On.next ≡ after_variable c.loop-p.p (c.loop-p.p.at + 2)
next-is c = went_on _ c.loop-p.p.at (after_variable c.loop-p.p (c.loop-p.p.at + 2)) c.on_variable-step.ensures.value c.in-On.is

taken :
    (c : In-On)
    → record_at_lem c.args.file.now c.loop-p.p.at ≡ There 1 (c.loop-p.p.at + 1) (c.loop-p.p.at + 1 + 1)
    → (acts : ActionTables) (begins : List ℕ)
    → Answers c.args.file.now c.loop-p.p
    (beside c.loop-p.rows acts) begins
    (beside c.on_variable-step.new.rows acts) begins
    (On c.in-On.next)
taken c there acts begins =
    let ((safe, _), (may, _)) = c.loop-p.invariant in
    rw (next-is c, c.on_variable-step.ensures.rows_after.0, c.on_variable-step.ensures.rows_after.1, c.on_variable-step.ensures.rows_after.2)
    (variable-taken c.args.file.now c.loop-p.p (beside c.loop-p.rows acts) begins safe may there _ refl
    (faultless _ c.loop-p.p.at (after_variable c.loop-p.p (c.loop-p.p.at + 2)) c.on_variable-step.ensures.value c.in-On.in-On-own.keys1))

pub loop-p-init : goal.loop-p-init
loop-p-init c = ((c.requires, omega arith), (not_left c.may_follow.ensures (ap not c.if-not-may_follow.false), λ acts begins h. h))

pub returns-then-not-is_at : goal.returns-then-not-is_at
returns-then-not-is_at c = let ((safe, further), (_, reached)) = c.loop-p.invariant in record { safe = (safe, further); halfway = reached }

pub overflow_add-at : goal.overflow_add-at
overflow_add-at c = omega (arith, inside (goal.at.overflow_add-at c).Else-not-is_at)

pub bounds-file-at : goal.bounds-file-at
bounds-file-at c = omega (arith, inside (goal.at.bounds-file-at c).Else-not-is_at)

pub overflow_add-at-in-loop-p : goal.overflow_add-at-in-loop-p
overflow_add-at-in-loop-p c = omega (arith, inside (goal.at.overflow_add-at-in-loop-p c).Else-not-is_at)

pub returns-in_default : goal.returns-in_default
returns-in_default c =
    let ((safe, further), (_, reached)) = c.loop-p.invariant in
    let same = unchanged (goal.at.returns-in_default c).In_default in
    record {
      safe = rw same (safe, further);
      halfway = rw (same, c.on_variable-step.ensures.rows_after.1, c.on_variable-step.ensures.rows_after.2) reached;
    }

pub loop-p-smaller : goal.loop-p-smaller
loop-p-smaller c =
    let t = (taken (goal.at.loop-p-smaller c).In-On (is-there (goal.at.loop-p-smaller c).Else-not-is_at) (seen [] []) []).0 in
    omega (arith, t.0, t.1.inside)

pub loop-p-preserved : goal.loop-p-preserved
loop-p-preserved c =
    let ((safe, further), (_, reached)) = c.loop-p.invariant in
    let on = (goal.at.loop-p-preserved c).In-On in
    let there = is-there (goal.at.loop-p-preserved c).Else-not-is_at in
    let t = (taken on there (seen [] []) []).0 in
    ((t.1, omega (arith, t.0)), (may_variable _ (ap (λ (p : Progress). p.last) (next-is on)), λ acts begins h. goes_on safe (reached acts begins h) (taken on there acts begins)))
