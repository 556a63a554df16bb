-- `gathering::whole_action` meets its contract: a run of conditions is read, and their number entered, with the situations where they follow.
-- Assumes nothing.
use borrow.Enum.Refused.{opened as keys_of}
use mathlib.Core.Path.{◌≡◌, refl, ap, ◌∙◌}
use mathlib.Core.List.{List}
use Prim.Native.Nat.{ℕ, ◌+◌, ◌-◌, ◌≤◌}
use native.Mathlib.Omega.{arith}
use lib.ListN.{length, get_or}
use Rattle.records.specs.Records.{record_at_lem, body_length_lem, body_lengths}
use Rattle.records.specs.declared.Found.TheVariants.{There}
use Rattle.records.proofs.Laws.{there_lies}
use Rattle.tables.specs.Rows.{seen}
use Rattle.judging.specs.Faults.{times_fault_lem}
use Rattle.advancing.specs.Steps.{after_times, with_many}
use Rattle.advancing.proofs.Judged.{goes_on as faultless, stops, went_on}
use Rattle.standing.proofs.Arms.{may_action, may_action_after_times}
use Rattle.standing.proofs.Kept.{times_kept}
use Rattle.standing.proofs.Runs.{times_taken}
use Rattle.gathering.proofs.whole_action.Goals as goal
use Rattle.gathering.proofs.whole_action.Goals.{Joined-is_at, Then-is_at, then-is_at+in_default, else-is_at}

is-there :
    (c : Then-is_at)
    → record_at_lem c.args.file.now c.conditions-run.result.at
    ≡ There 7 (c.conditions-run.result.at + 1) (c.conditions-run.result.at + 1 + 1)
unfolding body_length_lem body_lengths
is-there c = c.is_at.ensures (omega arith) (omega arith) refl c.if-is_at.true

inside : (c : Then-is_at) → c.conditions-run.result.at + 2 ≤ length c.args.file.now
inside c = omega (arith, (there_lies _ _ (is-there c)).whole)

-- situations with a fault leave the tables as they were
unchanged : (c : Joined-is_at) (setters : List ℕ) → seen setters c.if-is_at.acts ≡ seen setters c.args.acts.now
unchanged c setters =
    elim c.if-is_at.branch [
      | then-is_at+in_default w ↦
          rw w.acts-is
          (w.on_times-step.ensures.by_index setters
          ∙ rw (stops _ _ _ w.on_times-step.ensures.value (keys_of w.in_default.in_default-own.keys2)))
      | else-is_at w ↦ ap (seen setters) w.acts-is
    ]

pub overflow_add-at : goal.overflow_add-at
overflow_add-at c = omega (arith, inside c)

pub bounds-file-at : goal.bounds-file-at
bounds-file-at c = omega (arith, inside (goal.at.bounds-file-at c).Then-is_at)

pub overflow_add-at-then-is_at : goal.overflow_add-at-then-is_at
overflow_add-at-then-is_at c = omega (arith, inside (goal.at.overflow_add-at-then-is_at c).Then-is_at)

pub on_times-step-requires : goal.on_times-step-requires
on_times-step-requires c =
    let safe = c.conditions-run.ensures.safe_2 in
    let (low, high, _) = c.conditions-run.ensures.le_last_2 in
    let b = safe.bounds in
    (b.known_situation, omega (arith, b.fewer, b.low), b.some_action low high, b.few_actions)

pub returns-in-On : goal.returns-in-On
returns-in-On c =
    let run = c.conditions-run.result in
    let safe = c.conditions-run.ensures.safe_2 in
    let (low, high, further) = c.conditions-run.ensures.le_last_2 in
    let reached = c.conditions-run.ensures.halfway in
    let f = times_fault_lem (get_or c.args.file.now (run.at + 1) 0) in
    let told = after_times run (run.at + 2) in
    let good = faultless f run.at told c.on_times-step.ensures.value c.in-On.in-On-own.keys1 in
    let after = went_on f run.at told c.on_times-step.ensures.value c.in-On.is in
    record {
      safe = rw after (record { inside = inside (goal.at.returns-in-On c).Then-is_at; bounds = times_kept safe.bounds _ low high refl }, omega arith);
      last_value = rw after (may_action_after_times _);
      by_index =
          rw after
          (λ setters begins h.
          rw (c.on_times-step.ensures.by_index setters)
          (times_taken low high (seen setters c.args.acts.now) safe (is-there (goal.at.returns-in-On c).Then-is_at) _ refl good (reached _ _ _ _ h)));
    }

pub overflow_sub-run : goal.overflow_sub-run
overflow_sub-run c =
    let safe = c.conditions-run.ensures.safe_2 in
    let (low, high, _) = c.conditions-run.ensures.le_last_2 in
    safe.bounds.some_action low high

pub returns : goal.returns
returns c =
    let run = c.conditions-run.result in
    let safe = c.conditions-run.ensures.safe_2 in
    let (low, high, further) = c.conditions-run.ensures.le_last_2 in
    let reached = c.conditions-run.ensures.halfway in
    record {
      safe = (safe, further);
      last_value = may_action _ low high;
      by_index =
          λ setters begins h.
          rw (c.enter_many.ensures setters ∙ ap (λ t. with_many t (run.actions - 1) run.many) (unchanged (goal.at.returns c).Joined-is_at setters))
          (reached _ _ _ _ h);
    }
