-- `pacing::take` meets its contract: the kind says which arm of `Arms` answers.
-- Assumes nothing.
use mathlib.Core.Path.{◌≡◌, refl}
use mathlib.Core.Bool.{true}
use mathlib.Core.List.{List}
use Prim.Native.Nat.{ℕ, ◌+◌, ◌≤◌}
use native.Mathlib.Omega.{arith}
use native.Mathlib.Decide.{ℕ_discrete}
use lib.Dec.{ltb}
use lib.ListN.{length}
use Rattle.records.specs.Records.{record_at_lem, body_length_lem, body_lengths}
use Rattle.records.specs.declared.Found.TheVariants.{There}
use Rattle.records.proofs.Laws.{there_lies, beyond_the_kinds}
use Rattle.study.specs.Reading.{may_follow_lem}
use Rattle.tables.specs.Tables.{Tables}
use Rattle.tables.specs.Rows.{seen_all}
use Rattle.standing.proofs.Arms.{body_inside, where_it_ends, action_place, condition_action, times_action, variable_arm, action_arm, condition_arm, task_arm, seed_arm, times_arm, present_arm, end_verdict, seed_place, crew_arm}
use Rattle.pacing.proofs.take.Goals as goal
use Rattle.pacing.proofs.take.Goals.{In-1, In-2, In-3, In-4, In-5, In-7, In-8, In_default, Start}

abbrev held : Start → Tables
held s = seen_all s.args.acts.now s.args.vars.now s.args.setters.now

abbrev begun : Start → List ℕ
begun s = s.args.crews.now

-- the two clauses, of an arm's answer
clauses : {A B : Type 0} → A × B → record { further : A; meets : B }
clauses (further, meets) = record { further = further; meets = meets }

is-there : (s : Start) (k : ℕ) → s.args.kind ≡ k → record_at_lem s.args.file.now s.args.p.at ≡ There k s.args.start (s.args.start + body_length_lem k)
is-there s k e = where_it_ends _ _ (rw e at s.requires.by_index.1)

may-come : (s : Start) (k : ℕ) → s.args.kind ≡ k → may_follow_lem (ltb s.args.p.tasks s.args.p.vars) s.args.p.last k ≡ true
may-come s k e = rw e at s.requires.by_index.2

inside-1 : (c : In-1) → c.args.start + 1 ≤ length c.args.file.now
unfolding body_length_lem body_lengths
inside-1 c = body_inside _ _ c.requires.by_index.1 1 c.in-1.is

inside-2 : (c : In-2) → c.args.start + 3 ≤ length c.args.file.now
unfolding body_length_lem body_lengths
inside-2 c = body_inside _ _ c.requires.by_index.1 2 c.in-2.is

inside-3 : (c : In-3) → c.args.start + 2 ≤ length c.args.file.now
unfolding body_length_lem body_lengths
inside-3 c = body_inside _ _ c.requires.by_index.1 3 c.in-3.is

inside-4 : (c : In-4) → c.args.start + 3 ≤ length c.args.file.now
unfolding body_length_lem body_lengths
inside-4 c = body_inside _ _ c.requires.by_index.1 4 c.in-4.is

inside-5 : (c : In-5) → c.args.start + 4 ≤ length c.args.file.now
unfolding body_length_lem body_lengths
inside-5 c = body_inside _ _ c.requires.by_index.1 5 c.in-5.is

inside-7 : (c : In-7) → c.args.start + 1 ≤ length c.args.file.now
unfolding body_length_lem body_lengths
inside-7 c = body_inside _ _ c.requires.by_index.1 7 c.in-7.is

inside-8 : (c : In-8) → c.args.start + 1 ≤ length c.args.file.now
unfolding body_length_lem body_lengths
inside-8 c = body_inside _ _ c.requires.by_index.1 8 c.in-8.is

pub bounds-file-start : goal.bounds-file-start
bounds-file-start c = omega (arith, inside-1 (goal.at.bounds-file-start c).In-1)

pub overflow_add-start : goal.overflow_add-start
overflow_add-start c = omega (arith, inside-1 (goal.at.overflow_add-start c).In-1)

pub bounds-file-start-in-2 : goal.bounds-file-start-in-2
bounds-file-start-in-2 c = omega (arith, inside-2 (goal.at.bounds-file-start-in-2 c).In-2)

pub overflow_add-start-in-2 : goal.overflow_add-start-in-2
overflow_add-start-in-2 c = omega (arith, inside-2 (goal.at.overflow_add-start-in-2 c).In-2)

pub bounds-file-start-in-2-2 : goal.bounds-file-start-in-2-2
bounds-file-start-in-2-2 c = omega (arith, inside-2 (goal.at.bounds-file-start-in-2-2 c).In-2)

pub overflow_add-start-in-2-2 : goal.overflow_add-start-in-2-2
overflow_add-start-in-2-2 c = omega (arith, inside-2 (goal.at.overflow_add-start-in-2-2 c).In-2)

pub bounds-file-start-in-2-3 : goal.bounds-file-start-in-2-3
bounds-file-start-in-2-3 c = omega (arith, inside-2 (goal.at.bounds-file-start-in-2-3 c).In-2)

pub overflow_add-start-in-2-3 : goal.overflow_add-start-in-2-3
overflow_add-start-in-2-3 c = omega (arith, inside-2 (goal.at.overflow_add-start-in-2-3 c).In-2)

pub on_action-requires : goal.on_action-requires
unfolding body_length_lem body_lengths
on_action-requires c =
    let safe = c.requires.safe in
    (safe.bounds.few_vars, action_place _ _ _ _ (held (goal.at.on_action-requires c).Start) (begun (goal.at.on_action-requires c).Start) safe (is-there (goal.at.on_action-requires c).Start 2 c.in-2.is) (may-come (goal.at.on_action-requires c).Start 2 c.in-2.is))

pub bounds-file-start-in-3 : goal.bounds-file-start-in-3
bounds-file-start-in-3 c = omega (arith, inside-3 (goal.at.bounds-file-start-in-3 c).In-3)

pub overflow_add-start-in-3 : goal.overflow_add-start-in-3
overflow_add-start-in-3 c = omega (arith, inside-3 (goal.at.overflow_add-start-in-3 c).In-3)

pub bounds-file-start-in-3-2 : goal.bounds-file-start-in-3-2
bounds-file-start-in-3-2 c = omega (arith, inside-3 (goal.at.bounds-file-start-in-3-2 c).In-3)

pub overflow_add-start-in-3-2 : goal.overflow_add-start-in-3-2
overflow_add-start-in-3-2 c = omega (arith, inside-3 (goal.at.overflow_add-start-in-3-2 c).In-3)

pub on_condition-requires : goal.on_condition-requires
on_condition-requires c =
    let safe = c.requires.safe in
    (safe.bounds.few_vars, omega (arith, safe.bounds.fewer, safe.bounds.low), condition_action _ _ c.args.start 0 (held (goal.at.on_condition-requires c).Start) (begun (goal.at.on_condition-requires c).Start) safe (may-come (goal.at.on_condition-requires c).Start 3 c.in-3.is), safe.bounds.few_actions)

pub bounds-file-start-in-4 : goal.bounds-file-start-in-4
bounds-file-start-in-4 c = omega (arith, inside-4 (goal.at.bounds-file-start-in-4 c).In-4)

pub overflow_add-start-in-4 : goal.overflow_add-start-in-4
overflow_add-start-in-4 c = omega (arith, inside-4 (goal.at.overflow_add-start-in-4 c).In-4)

pub bounds-file-start-in-4-2 : goal.bounds-file-start-in-4-2
bounds-file-start-in-4-2 c = omega (arith, inside-4 (goal.at.bounds-file-start-in-4-2 c).In-4)

pub overflow_add-start-in-4-2 : goal.overflow_add-start-in-4-2
overflow_add-start-in-4-2 c = omega (arith, inside-4 (goal.at.overflow_add-start-in-4-2 c).In-4)

pub bounds-file-start-in-4-3 : goal.bounds-file-start-in-4-3
bounds-file-start-in-4-3 c = omega (arith, inside-4 (goal.at.bounds-file-start-in-4-3 c).In-4)

pub overflow_add-start-in-4-3 : goal.overflow_add-start-in-4-3
overflow_add-start-in-4-3 c = omega (arith, inside-4 (goal.at.overflow_add-start-in-4-3 c).In-4)

pub bounds-file-start-in-5 : goal.bounds-file-start-in-5
bounds-file-start-in-5 c = omega (arith, inside-5 (goal.at.bounds-file-start-in-5 c).In-5)

pub overflow_add-start-in-5 : goal.overflow_add-start-in-5
overflow_add-start-in-5 c = omega (arith, inside-5 (goal.at.overflow_add-start-in-5 c).In-5)

pub bounds-file-start-in-5-2 : goal.bounds-file-start-in-5-2
bounds-file-start-in-5-2 c = omega (arith, inside-5 (goal.at.bounds-file-start-in-5-2 c).In-5)

pub overflow_add-start-in-5-2 : goal.overflow_add-start-in-5-2
overflow_add-start-in-5-2 c = omega (arith, inside-5 (goal.at.overflow_add-start-in-5-2 c).In-5)

pub bounds-file-start-in-5-3 : goal.bounds-file-start-in-5-3
bounds-file-start-in-5-3 c = omega (arith, inside-5 (goal.at.bounds-file-start-in-5-3 c).In-5)

pub overflow_add-start-in-5-3 : goal.overflow_add-start-in-5-3
overflow_add-start-in-5-3 c = omega (arith, inside-5 (goal.at.overflow_add-start-in-5-3 c).In-5)

pub bounds-file-start-in-5-4 : goal.bounds-file-start-in-5-4
bounds-file-start-in-5-4 c = omega (arith, inside-5 (goal.at.bounds-file-start-in-5-4 c).In-5)

pub overflow_add-start-in-5-4 : goal.overflow_add-start-in-5-4
overflow_add-start-in-5-4 c = omega (arith, inside-5 (goal.at.overflow_add-start-in-5-4 c).In-5)

pub on_seed-requires : goal.on_seed-requires
on_seed-requires c =
    seed_place _ _ c.args.start 0 (held (goal.at.on_seed-requires c).Start) (begun (goal.at.on_seed-requires c).Start) c.requires.safe (may-come (goal.at.on_seed-requires c).Start 5 c.in-5.is)

pub bounds-file-start-in-7 : goal.bounds-file-start-in-7
bounds-file-start-in-7 c = omega (arith, inside-7 (goal.at.bounds-file-start-in-7 c).In-7)

pub overflow_add-start-in-7 : goal.overflow_add-start-in-7
overflow_add-start-in-7 c = omega (arith, inside-7 (goal.at.overflow_add-start-in-7 c).In-7)

pub on_times-requires : goal.on_times-requires
on_times-requires c =
    let safe = c.requires.safe in
    (safe.bounds.known_situation, omega (arith, safe.bounds.fewer, safe.bounds.low), times_action _ _ c.args.start 0 (held (goal.at.on_times-requires c).Start) (begun (goal.at.on_times-requires c).Start) safe (may-come (goal.at.on_times-requires c).Start 7 c.in-7.is), safe.bounds.few_actions)

pub bounds-file-start-in-8 : goal.bounds-file-start-in-8
bounds-file-start-in-8 c = omega (arith, inside-8 (goal.at.bounds-file-start-in-8 c).In-8)

pub overflow_add-start-in-8 : goal.overflow_add-start-in-8
overflow_add-start-in-8 c = omega (arith, inside-8 (goal.at.overflow_add-start-in-8 c).In-8)

pub returns-in-1 : goal.returns-in-1
unfolding body_length_lem body_lengths
returns-in-1 c =
    rw (c.on_variable.ensures.value, c.on_variable.ensures.rows_after.0, c.on_variable.ensures.rows_after.1, c.on_variable.ensures.rows_after.2)
    (clauses (variable_arm _ _ _ _ (held (goal.at.returns-in-1 c).Start) (begun (goal.at.returns-in-1 c).Start) c.requires.safe (is-there (goal.at.returns-in-1 c).Start 1 c.in-1.is) (may-come (goal.at.returns-in-1 c).Start 1 c.in-1.is) _ refl))

pub returns-in-2 : goal.returns-in-2
unfolding body_length_lem body_lengths
returns-in-2 c =
    rw (c.on_action.ensures.value, c.on_action.ensures.by_index c.args.setters.now)
    (clauses (action_arm _ _ _ _ (held (goal.at.returns-in-2 c).Start) (begun (goal.at.returns-in-2 c).Start) c.requires.safe (is-there (goal.at.returns-in-2 c).Start 2 c.in-2.is) (may-come (goal.at.returns-in-2 c).Start 2 c.in-2.is) _ _ _ refl refl refl _ refl))

pub returns-in-3 : goal.returns-in-3
unfolding body_length_lem body_lengths
returns-in-3 c =
    rw (c.on_condition.ensures.value, c.on_condition.ensures.by_index c.args.setters.now)
    (clauses (condition_arm _ _ _ _ (held (goal.at.returns-in-3 c).Start) (begun (goal.at.returns-in-3 c).Start) c.requires.safe (is-there (goal.at.returns-in-3 c).Start 3 c.in-3.is) (may-come (goal.at.returns-in-3 c).Start 3 c.in-3.is) _ _ refl refl _ refl))

pub returns-in-4 : goal.returns-in-4
unfolding body_length_lem body_lengths
returns-in-4 c =
    rw c.on_task.ensures
    (clauses (task_arm _ _ _ _ (held (goal.at.returns-in-4 c).Start) (begun (goal.at.returns-in-4 c).Start) c.requires.safe (is-there (goal.at.returns-in-4 c).Start 4 c.in-4.is) (may-come (goal.at.returns-in-4 c).Start 4 c.in-4.is) _ _ _ refl refl refl _ refl))

pub returns-in-5 : goal.returns-in-5
unfolding body_length_lem body_lengths
returns-in-5 c =
    rw (c.on_seed.ensures.value, c.on_seed.ensures.crews_after)
    (clauses (seed_arm _ _ _ _ (held (goal.at.returns-in-5 c).Start) (begun (goal.at.returns-in-5 c).Start) c.requires.safe (is-there (goal.at.returns-in-5 c).Start 5 c.in-5.is) (may-come (goal.at.returns-in-5 c).Start 5 c.in-5.is) _ c.seed_of.ensures))

pub returns-in-7 : goal.returns-in-7
unfolding body_length_lem body_lengths
returns-in-7 c =
    rw (c.on_times.ensures.value, c.on_times.ensures.by_index c.args.setters.now)
    (clauses (times_arm _ _ _ _ (held (goal.at.returns-in-7 c).Start) (begun (goal.at.returns-in-7 c).Start) c.requires.safe (is-there (goal.at.returns-in-7 c).Start 7 c.in-7.is) (may-come (goal.at.returns-in-7 c).Start 7 c.in-7.is) _ refl))

pub returns-in-8 : goal.returns-in-8
unfolding body_length_lem body_lengths
returns-in-8 c =
    rw c.on_present.ensures
    (clauses (present_arm _ _ _ _ (held (goal.at.returns-in-8 c).Start) (begun (goal.at.returns-in-8 c).Start) c.requires.safe (is-there (goal.at.returns-in-8 c).Start 8 c.in-8.is) (may-come (goal.at.returns-in-8 c).Start 8 c.in-8.is) _ refl))

pub returns-in-9 : goal.returns-in-9
unfolding body_length_lem body_lengths
returns-in-9 c =
    let n : c.args.start + 0 ≡ c.args.start = omega arith in
    rw c.on_crew.ensures
    (clauses (crew_arm _ _ _ _ (held (goal.at.returns-in-9 c).Start) (begun (goal.at.returns-in-9 c).Start) c.requires.safe (rw n at (is-there (goal.at.returns-in-9 c).Start 9 c.in-9.is)) (may-come (goal.at.returns-in-9 c).Start 9 c.in-9.is)))

-- the kind is one of nine, and none of the eight others
is-end : (c : In_default) → c.args.kind ≡ 6
is-end c = from (ℕ_discrete c.args.kind 6)
  where
    from : Dec (c.args.kind ≡ 6) → c.args.kind ≡ 6
    from (yes e) = e
    from (no ne) =
        let l = there_lies _ _ c.requires.by_index.1 in
        let r = c.in_default.in_default-own.rest in
        absurd
        (omega (
          arith,
          l.high,
          beyond_the_kinds l.low r.0.0.0.0.0.0.0.1 r.0.0.0.0.0.0.1 r.0.0.0.0.0.1 r.0.0.0.0.1 r.0.0.0.1 ne r.0.0.1 r.0.1 r.1,
        ))

pub returns-in_default : goal.returns-in_default
unfolding body_length_lem body_lengths
returns-in_default c =
    let n : c.args.start + 0 ≡ c.args.start = omega arith in
    let may = may-come (goal.at.returns-in_default c).Start 6 (is-end (goal.at.returns-in_default c).In_default) in
    let safe = c.requires.safe in record {
      further = c.on_end.ensures.by_index _ _ _;
      meets = λ d stands.
          rw (end_verdict _ _ _ _ (held (goal.at.returns-in_default c).Start) (begun (goal.at.returns-in_default c).Start) safe (rw n at (is-there (goal.at.returns-in_default c).Start 6 (is-end (goal.at.returns-in_default c).In_default))) may d stands)
          (c.on_end.ensures.meets _ _ _ _ _ d refl stands);
    }
