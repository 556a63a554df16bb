-- `rostering::crews` meets its contract: each turn takes the tasks of a crew, its seed, and what opens the next crew.
-- Assumes nothing.
use borrow.Enum.Refused.{opened as keys_of}
use mathlib.Core.Path.{◌≡◌, refl, sym, ap, ◌∙◌, subst}
use mathlib.Core.Bool.{not}
use mathlib.Core.List.{List, []}
use Prim.Native.Nat.{ℕ, ◌+◌, ◌-◌, ◌*◌, ◌≤◌, ◌<◌}
use native.Mathlib.Omega.{arith}
use lib.ListN.{length}
use borrow.Author.Tests.{not-false}
use Rattle.records.specs.Records.{record_at_lem, body_length_lem, body_lengths}
use Rattle.records.specs.declared.Found.TheVariants.{There}
use Rattle.records.proofs.Laws.{there_lies}
use Rattle.tables.specs.Tables.{ActionTables, tables}
use Rattle.tables.specs.Rows.{count_column, seen}
use Rattle.judging.specs.Faults.{seed_fault_lem, crew_fault_lem}
use Rattle.judging.proofs.Tests.{not_left}
use Rattle.advancing.specs.declared.Progress.{Progress}
use Rattle.advancing.specs.declared.Step.TheVariants.{On}
use Rattle.advancing.specs.Steps.{after_seed, after_crew, stored}
use Rattle.advancing.proofs.Judged.{goes_on as faultless, stops, went_on}
use Rattle.standing.specs.Reads.{Safe}
use Rattle.standing.proofs.Arms.{Answers, seed_place}
use Rattle.standing.specs.Halfway.{Halfway}
use Rattle.standing.proofs.Pass.{goes_on}
use Rattle.standing.proofs.Runs.{seed_taken, crew_taken}
use Rattle.rostering.proofs.crews.Invariants.{ReadTo}
use Rattle.rostering.proofs.crews.Goals as goal
use Rattle.rostering.proofs.crews.Goals.{After-tasks-p, Else-not-is_at, In-On, In-On-step, In_default}

-- .. over one record
abbrev Takes : List ℕ → List ℕ → List ℕ → Progress → List ℕ → Progress → Type 0
Takes file counts begins p begins' p' =
    (acts : ActionTables) (starts goals : List ℕ)
    → Answers file p (tables counts acts starts goals) begins (tables counts acts starts goals) begins' (On p')

module _ {file counts begins : List ℕ} {p : Progress} where
  takes-these : {begins' begins'' : List ℕ} {p' p'' : Progress} → begins'' ≡ begins' → p'' ≡ p' → Takes file counts begins p begins' p' → Takes file counts begins p begins'' p''
  takes-these e f takes = rw (e, f) takes

  goes_further : {begins' : List ℕ} {p' : Progress} → Takes file counts begins p begins' p' → (p.at < p'.at) × Safe file p' counts
  goes_further takes = (takes (seen [] []) [] []).0

  reads_on : {begins₀ begins' : List ℕ} {p₀ p' : Progress} → ReadTo file counts begins₀ p₀ begins p → Takes file counts begins p begins' p' → ReadTo file counts begins₀ p₀ begins' p'
  reads_on ((safe, further), reached) takes =
      let t = goes_further takes in
      ((t.1, omega (arith, t.0)), λ acts starts goals h. goes_on safe (reached acts starts goals h) (takes acts starts goals))

-- behind the tasks of a crew the file has been read from where the function began
tasks-read : (w : After-tasks-p) → ReadTo w.args.file.now (count_column w.args.rows.now) w.args.begins.now w.args.begin w.loop-p.begins w.tasks-p.result
tasks-read w =
    let ((_, before), reached) = w.loop-p.invariant in
    let (safe, further) = w.tasks-p.ensures.safe in
    ((safe, omega arith), λ acts starts goals h. w.tasks-p.ensures.halfway acts starts goals _ (reached acts starts goals h))

-- where a seed has been found
seed-there : (e : Else-not-is_at) → record_at_lem e.args.file.now e.tasks-p.result.at ≡ There 5 (e.tasks-p.result.at + 1) (e.tasks-p.result.at + 1 + 4)
unfolding body_length_lem body_lengths
seed-there e = e.is_at.ensures (omega arith) (omega arith) refl (not-false _ (ap not e.if-not-is_at.false))

inside : (e : Else-not-is_at) → e.tasks-p.result.at + 5 ≤ length e.args.file.now
inside e = omega (arith, (there_lies _ _ (seed-there e)).whole)

-- a seed with a fault leaves where the crews begin as it was
unchanged : (c : In_default) → c.on_seed-sown.new.crews ≡ c.loop-p.begins
unchanged c = c.on_seed-sown.ensures.crews_after ∙ rw (stops _ _ _ c.on_seed-sown.ensures.value (keys_of c.in_default.in_default-own.keys2))

-- .. and one without is entered
sown-is : (k : In-On) → k.in-On.after ≡ after_seed k.tasks-p.result (k.tasks-p.result.at + 5)
sown-is k =
    went_on (seed_fault_lem k.seed_of-n.result) k.tasks-p.result.at (after_seed k.tasks-p.result (k.tasks-p.result.at + 5)) k.on_seed-sown.ensures.value k.in-On.is

takes-seed :
    (k : In-On)
    → Takes k.args.file.now (count_column k.args.rows.now) k.loop-p.begins k.tasks-p.result k.on_seed-sown.new.crews k.in-On.after
unfolding body_length_lem body_lengths
takes-seed k =
    takes-these
    {begins' = stored (seed_fault_lem k.seed_of-n.result) k.loop-p.begins k.tasks-p.result.crews (k.tasks-p.result.at - 4 * k.tasks-p.result.tasks)}
    k.on_seed-sown.ensures.crews_after (sown-is k)
    (λ acts starts goals.
    seed_taken k.args.file.now k.tasks-p.result (tables (count_column k.args.rows.now) acts starts goals) k.loop-p.begins k.tasks-p.ensures.safe.0
    (not_left k.may_follow.ensures (ap not k.if-not-may_follow.false))
    (k.is_at.ensures (omega arith) (omega arith) refl (not-false _ (ap not k.if-not-is_at.false))) k.seed_of-n.result k.seed_of-n.ensures
    (faultless (seed_fault_lem k.seed_of-n.result) k.tasks-p.result.at (after_seed k.tasks-p.result (k.tasks-p.result.at + 5)) k.on_seed-sown.ensures.value k.in-On.in-On-own.keys1))

-- the opening of the next crew, without fault
takes-crew :
    (c : In-On-step)
    → Safe c.args.file.now c.in-On.after (count_column c.args.rows.now)
    → c.in-On.after.last ≡ 5
    → Takes c.args.file.now (count_column c.args.rows.now) c.on_seed-sown.new.crews c.in-On.after c.on_seed-sown.new.crews c.in-On-step.next
unfolding body_length_lem body_lengths
takes-crew c safe last =
    let after = after_crew c.in-On.after (c.in-On.after.at + 1) in
    takes-these refl (went_on (crew_fault_lem c.in-On.after.crews) c.in-On.after.at after c.on_crew-step.ensures c.in-On-step.is)
    (λ acts starts goals.
    crew_taken c.args.file.now c.in-On.after (tables (count_column c.args.rows.now) acts starts goals) c.on_seed-sown.new.crews safe last
    (c.is_at-in-loop-p.ensures (omega arith) (omega arith) refl (not-false _ (ap not c.if-not-is_at-2.false)))
    (faultless (crew_fault_lem c.in-On.after.crews) c.in-On.after.at after c.on_crew-step.ensures c.in-On-step.in-On-step-own.keys1))

pub bounds-file-at : goal.bounds-file-at
bounds-file-at c = omega (arith, inside (goal.at.bounds-file-at c).Else-not-is_at)

pub bounds-file-at-in-loop-p : goal.bounds-file-at-in-loop-p
bounds-file-at-in-loop-p c = omega (arith, inside (goal.at.bounds-file-at-in-loop-p c).Else-not-is_at)

pub bounds-file-at-in-loop-p-2 : goal.bounds-file-at-in-loop-p-2
bounds-file-at-in-loop-p-2 c = omega (arith, inside (goal.at.bounds-file-at-in-loop-p-2 c).Else-not-is_at)

pub bounds-file-at-in-loop-p-3 : goal.bounds-file-at-in-loop-p-3
bounds-file-at-in-loop-p-3 c = omega (arith, inside (goal.at.bounds-file-at-in-loop-p-3 c).Else-not-is_at)

pub on_seed-sown-requires : goal.on_seed-sown-requires
on_seed-sown-requires c =
    seed_place _ _ 0 0 (tables (count_column c.args.rows.now) (seen [] []) [] []) [] c.tasks-p.ensures.safe.0
    (not_left c.may_follow.ensures (ap not c.if-not-may_follow.false))

pub returns-in_default : goal.returns-in_default
returns-in_default c =
    let (safe, reached) = tasks-read (goal.at.returns-in_default c).After-tasks-p in
    record {
      safe = safe;
      halfway = λ acts starts goals h.
          subst (λ (begins : List ℕ). Halfway c.args.file.now (tables (count_column c.args.rows.now) acts starts goals) begins c.tasks-p.result)
          (sym (unchanged (goal.at.returns-in_default c).In_default)) (reached acts starts goals h);
    }

pub is_at-requires-in-loop-p : goal.is_at-requires-in-loop-p
is_at-requires-in-loop-p c = (goes_further (takes-seed (goal.at.is_at-requires-in-loop-p c).In-On)).1.inside

pub returns-then-not-is_at-2 : goal.returns-then-not-is_at-2
returns-then-not-is_at-2 c =
    let (safe, halfway) = reads_on (tasks-read (goal.at.returns-then-not-is_at-2 c).After-tasks-p) (takes-seed (goal.at.returns-then-not-is_at-2 c).In-On) in
    record { safe = safe; halfway = halfway }

pub returns-in_default-step : goal.returns-in_default-step
returns-in_default-step c =
    let (safe, halfway) = reads_on (tasks-read (goal.at.returns-in_default-step c).After-tasks-p) (takes-seed (goal.at.returns-in_default-step c).In-On) in
    record { safe = safe; halfway = halfway }

pub loop-p-smaller : goal.loop-p-smaller
loop-p-smaller c =
    let on = (goal.at.loop-p-smaller c).In-On in
    let s = goes_further (takes-seed on) in
    let t = goes_further (takes-crew (goal.at.loop-p-smaller c).In-On-step s.1 (ap (λ (p : Progress). p.last) (sown-is on))) in
    omega (arith, c.tasks-p.ensures.safe.1, s.0, t.0, t.1.inside)

pub loop-p-preserved : goal.loop-p-preserved
loop-p-preserved c =
    let on = (goal.at.loop-p-preserved c).In-On in
    reads_on (reads_on (tasks-read (goal.at.loop-p-preserved c).After-tasks-p) (takes-seed on))
    (takes-crew (goal.at.loop-p-preserved c).In-On-step (goes_further (takes-seed on)).1 (ap (λ (p : Progress). p.last) (sown-is on)))
