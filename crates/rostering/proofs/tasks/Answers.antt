-- `rostering::tasks` meets its contract: each turn takes one task, while a variable is left.
-- Assumes nothing.
use mathlib.Core.Bool.{not}
use mathlib.Core.Path.{◌≡◌, refl, sym, ap, ◌∙◌}
use mathlib.Core.List.{List, []}
use Prim.Native.Nat.{ℕ, ◌+◌, ◌≤◌}
use native.Mathlib.Omega.{arith}
use lib.ListN.{length}
use borrow.Author.Tests.{not-false, lt-ltb}
use Rattle.records.specs.Records.{record_at_lem, body_length_lem, body_lengths}
use Rattle.records.specs.declared.Found.TheVariants.{There}
use Rattle.records.proofs.Laws.{there_lies}
use Rattle.tables.specs.Tables.{ActionTables, tables}
use Rattle.tables.specs.Rows.{count_column, seen}
use Rattle.advancing.specs.declared.Progress.{Progress}
use Rattle.advancing.specs.declared.Step.TheVariants.{On}
use Rattle.advancing.specs.Steps.{after_task}
use Rattle.advancing.proofs.Judged.{goes_on as faultless, went_on}
use Rattle.standing.proofs.Arms.{Answers}
use Rattle.standing.proofs.Pass.{goes_on}
use Rattle.standing.proofs.Runs.{may_task, task-taken}
use Rattle.rostering.proofs.tasks.Goals as goal
use Rattle.rostering.proofs.tasks.Goals.{Else-not-is_at, In-On}

-- where a task has been found, and a variable is left: the file, how far it has been read, the rows, what is found
abbrev Found : Type 0
Found = Else-not-is_at

is-there : (e : Found) → record_at_lem e.args.file.now e.loop-p.p.at ≡ There 4 (e.loop-p.p.at + 1) (e.loop-p.p.at + 1 + 3)
unfolding body_length_lem body_lengths
is-there e = e.is_at.ensures (omega arith) (omega arith) refl (not-false _ (ap not e.if-not-is_at.false))

inside : (e : Found) → e.loop-p.p.at + 4 ≤ length e.args.file.now
inside e = omega (arith, (there_lies _ _ (is-there e)).whole)

-- a task without fault
next-is : (c : In-On) → c.in-On.next ≡ after_task c.loop-p.p (c.loop-p.p.at + 4)
next-is c = went_on _ c.loop-p.p.at (after_task c.loop-p.p (c.loop-p.p.at + 4)) c.on_task-step.ensures c.in-On.is

taken :
    (c : In-On) (acts : ActionTables) (starts goals begins : List ℕ)
    → Answers c.args.file.now c.loop-p.p
    (tables (count_column c.args.rows.now) acts starts goals) begins
    (tables (count_column c.args.rows.now) acts starts goals) begins
    (On c.in-On.next)
unfolding body_length_lem body_lengths
taken c acts starts goals begins =
    let ((safe, _), (may, _)) = c.loop-p.invariant in
    rw (next-is c)
    (task-taken c.args.file.now c.loop-p.p (tables (count_column c.args.rows.now) acts starts goals) begins safe (may (omega (arith, c.if-p.false)))
    (c.is_at.ensures (omega arith) (omega arith) refl (not-false _ (ap not c.if-not-is_at.false))) _ _ _ refl refl refl _ refl
    (faultless _ c.loop-p.p.at (after_task c.loop-p.p (c.loop-p.p.at + 4)) c.on_task-step.ensures c.in-On.in-On-own.keys1))

pub loop-p-init : goal.loop-p-init
loop-p-init c = ((c.requires, omega arith), (λ left. sym c.may_follow.ensures ∙ not-false _ (ap not c.if-not-may_follow.false), λ acts starts goals begins h. h))

pub returns-then-p : goal.returns-then-p
returns-then-p c = let ((safe, further), (_, reached)) = c.loop-p.invariant in record { safe = (safe, further); halfway = reached }

pub returns-then-not-is_at : goal.returns-then-not-is_at
returns-then-not-is_at c = let ((safe, further), (_, reached)) = c.loop-p.invariant in record { safe = (safe, further); halfway = reached }

pub overflow_add-at : goal.overflow_add-at
overflow_add-at c = omega (arith, inside (goal.at.overflow_add-at c).Else-not-is_at)

pub bounds-file-at : goal.bounds-file-at
bounds-file-at c = omega (arith, inside (goal.at.bounds-file-at c).Else-not-is_at)

pub overflow_add-at-in-loop-p : goal.overflow_add-at-in-loop-p
overflow_add-at-in-loop-p c = omega (arith, inside (goal.at.overflow_add-at-in-loop-p c).Else-not-is_at)

pub bounds-file-at-in-loop-p : goal.bounds-file-at-in-loop-p
bounds-file-at-in-loop-p c = omega (arith, inside (goal.at.bounds-file-at-in-loop-p c).Else-not-is_at)

pub overflow_add-at-in-loop-p-2 : goal.overflow_add-at-in-loop-p-2
overflow_add-at-in-loop-p-2 c = omega (arith, inside (goal.at.overflow_add-at-in-loop-p-2 c).Else-not-is_at)

pub bounds-file-at-in-loop-p-2 : goal.bounds-file-at-in-loop-p-2
bounds-file-at-in-loop-p-2 c = omega (arith, inside (goal.at.bounds-file-at-in-loop-p-2 c).Else-not-is_at)

pub overflow_add-at-in-loop-p-3 : goal.overflow_add-at-in-loop-p-3
overflow_add-at-in-loop-p-3 c = omega (arith, inside (goal.at.overflow_add-at-in-loop-p-3 c).Else-not-is_at)

pub on_task-step-requires : goal.on_task-step-requires
on_task-step-requires c = c.loop-p.invariant.0.0.bounds.few_vars

pub returns-in_default : goal.returns-in_default
returns-in_default c =
    let ((safe, further), (_, reached)) = c.loop-p.invariant in
    record { safe = (safe, further); halfway = reached }

pub loop-p-smaller : goal.loop-p-smaller
loop-p-smaller c =
    let t = (taken (goal.at.loop-p-smaller c).In-On (seen [] []) [] [] []).0 in
    omega (arith, t.0, t.1.inside)

pub loop-p-preserved : goal.loop-p-preserved
loop-p-preserved c =
    let ((safe, further), (_, reached)) = c.loop-p.invariant in
    let t = (taken (goal.at.loop-p-preserved c).In-On (seen [] []) [] [] []).0 in (
      (t.1, omega (arith, t.0)),
      (λ left. may_task (ap (λ (p : Progress). p.last) (next-is (goal.at.loop-p-preserved c).In-On)) (lt-ltb _ _ left), λ acts starts goals begins h. goes_on safe (reached acts starts goals begins h) (taken (goal.at.loop-p-preserved c).In-On acts starts goals begins)),
    )
