-- `skimming::present` meets its contract: a situation that may come is taken, where it has no fault.
-- Assumes nothing.
use mathlib.Core.Bool.{not}
use mathlib.Core.Path.{ap, ◌≡◌, refl}
use mathlib.Core.List.{List, []}
use Prim.Native.Nat.{ℕ, ◌+◌, ◌≤◌}
use native.Mathlib.Omega.{arith}
use lib.ListN.{length, get_or}
use borrow.Author.Tests.{not-false}
use Rattle.records.specs.Records.{record_at_lem, body_length_lem, body_lengths}
use Rattle.records.specs.declared.Found.TheVariants.{There}
use Rattle.records.proofs.Laws.{there_lies}
use Rattle.tables.specs.Tables.{Tables, tables}
use Rattle.tables.specs.Rows.{seen}
use Rattle.judging.specs.Faults.{present_fault_lem}
use Rattle.judging.proofs.Tests.{not_left}
use Rattle.advancing.specs.declared.Step.TheVariants.{On}
use Rattle.advancing.specs.Steps.{after_present}
use Rattle.advancing.proofs.Judged.{goes_on as faultless, went_on}
use Rattle.standing.specs.Reads.{Safe}
use Rattle.standing.proofs.Arms.{Answers}
use Rattle.standing.proofs.Pass.{goes_on}
use Rattle.standing.proofs.Runs.{present_taken}
use Rattle.skimming.proofs.present.Goals as goal
use Rattle.skimming.proofs.present.Goals.{Else-not-is_at, In-On}

-- where a situation has been found
is-there : (e : Else-not-is_at) → record_at_lem e.args.file.now e.args.begin.at ≡ There 8 (e.args.begin.at + 1) (e.args.begin.at + 1 + 1)
unfolding body_length_lem body_lengths
is-there e = e.is_at.ensures (omega arith) (omega arith) refl (not-false _ (ap not e.if-not-is_at.false))

inside : (e : Else-not-is_at) → e.args.begin.at + 2 ≤ length e.args.file.now
inside e = omega (arith, (there_lies _ _ (is-there e)).whole)

taken :
    (c : In-On) (t : Tables) (begins : List ℕ)
    → record_at_lem c.args.file.now c.args.begin.at ≡ There 8 (c.args.begin.at + 1) (c.args.begin.at + 1 + 1)
    → Safe c.args.file.now c.args.begin t.counts
    → Answers c.args.file.now c.args.begin t begins t begins (On c.in-On.next)
taken c t begins there safe =
    let n = get_or c.args.file.now (c.args.begin.at + 1) 0 in
    let after = after_present c.args.begin n (c.args.begin.at + 2) in
    rw (went_on (present_fault_lem n) c.args.begin.at after c.on_present-step.ensures c.in-On.is)
    (present_taken c.args.file.now c.args.begin t begins safe (not_left c.may_follow.ensures (ap not c.if-not-may_follow.false)) there _ refl
    (faultless (present_fault_lem n) c.args.begin.at after c.on_present-step.ensures c.in-On.in-On-own.keys1))

pub overflow_add-at : goal.overflow_add-at
overflow_add-at c = omega (arith, inside (goal.at.overflow_add-at c).Else-not-is_at)

pub bounds-file-at : goal.bounds-file-at
bounds-file-at c = omega (arith, inside (goal.at.bounds-file-at c).Else-not-is_at)

pub overflow_add-at-2 : goal.overflow_add-at-2
overflow_add-at-2 c = omega (arith, inside (goal.at.overflow_add-at-2 c).Else-not-is_at)

pub returns : goal.returns
returns c =
    let on = (goal.at.returns c).In-On in
    let there = is-there (goal.at.returns c).Else-not-is_at in
    record {
      by_index = λ counts safe. let t = (taken on (tables counts (seen [] []) [] []) [] there safe).0 in (t.1, omega (arith, t.0));
      halfway = λ t begins safe h. goes_on safe h (taken on t begins there safe);
    }
