-- Each kind of record, taken: the step answers to the verdict, and stays safe.
-- Assumes nothing.
use mathlib.Core.Path.{◌≡◌, refl, sym, ap, ◌∙◌}
use mathlib.Core.Bool.{Bool, true}
use mathlib.Core.Logic.{inl, inr, ◌≢◌}
use mathlib.Core.List.{List, [], ◌∷◌}
use Prim.Native.Nat.{ℕ, zero, suc, ◌+◌, ◌-◌, ◌*◌, ◌/◌, ◌%◌, ◌≤◌, ◌<◌}
use native.Mathlib.Omega.{arith}
use lib.Dec.{eqb, ltb, eqb-suc-zero}
use lib.ListN.{length, get_or, set}
use borrow.Author.Tests.{le-leb, ltb-true, ltb-false}
use types.Run.{OneOf}
use denote.Enum.Declared.{tag_of}
use Rattle.plain.specs.Choose.{pick}
use Rattle.records.specs.Records.{record_at_lem, body_length_lem, body_lengths}
use Rattle.records.specs.declared.Found.{Found}
use Rattle.records.specs.declared.Found.TheVariants.{There, Unknown, Cut, Ended}
use Rattle.records.specs.contracts.Found.{the_type}
use Rattle.records.proofs.Laws.{Lies, there_lies}
use Rattle.study.specs.Reading.{Draft, Verdict, settled, onward, allowed, may_follow_lem, unless, fault, fault_in, drafted, decoded, taken, ended, first_repeat, judged, verdict_at, variable, action, condition, task, seed, times, present, crew}
use Rattle.study.proofs.Verdicts.{verdict_by, verdict_allowed}
use Rattle.lawful.proofs.Order.{stage, may_follow_law}
use Rattle.advancing.specs.declared.Progress.{Progress}
use Rattle.advancing.specs.declared.Step.{Step}
use Rattle.tables.specs.Tables.{Tables, tables, action_tables, seed_of_lem, seed_at_lem}
use Rattle.judging.specs.Faults.{variable_fault_lem, action_fault_lem, condition_fault_lem, task_fault_lem, seed_fault_lem, times_fault_lem, present_fault_lem, crew_fault_lem}
use Rattle.advancing.specs.Steps.{after_variable, after_action, after_condition, after_task, after_seed, after_times, after_present, after_crew, unless_fault, stored, stored_action, stored_many, out_by_lem}
use Rattle.standing.specs.Reads.{Safe, Knows, Stands, Further, Meets, not_there_lem}
use Rattle.standing.proofs.Told.{variable_fault_is, action_fault_is, condition_fault_is, task_fault_is, seed_fault_is, times_fault_is, present_fault_is, crew_fault_is}
use Rattle.standing.proofs.Entered.{variable_entered, action_entered, condition_entered, times_entered, task_entered, seed_entered, present_entered, crew_entered}
use Rattle.standing.proofs.Kept.{variable_kept, action_kept, condition_kept, times_kept, task_kept, seed_kept, present_kept, crew_kept}

-- what a step is to do
abbrev pub Answers : List ℕ → Progress → Tables → List ℕ → Tables → List ℕ → Step → Type 0
Answers file p t begins t' begins' r =
    Further file p.at t'.counts r × ((d : Draft) → Stands file p t begins d → Meets file (verdict_at file p.at d) t' begins' r)

pub allowed_is : {p : Progress} {counts : List ℕ} {d : Draft} → Knows p counts d → (kind : ℕ) → allowed d kind ≡ may_follow_lem (ltb p.tasks p.vars) p.last kind
allowed_is knows kind = rw (knows.tasks, knows.counts.count, knows.last)

-- the body of a record of a given kind lies inside the file
pub body_inside : (file : List ℕ) (at : ℕ) {kind start next : ℕ} → record_at_lem file at ≡ There kind start next → (k : ℕ) → kind ≡ k → start + body_length_lem k ≤ length file
body_inside file at there k e = let l = there_lies file at there in rw (← e) (omega (arith, l.starts, l.goes_on, l.whole))

-- the place after a record is that of its kind
pub where_it_ends :
    (file : List ℕ) (at : ℕ) {kind start next : ℕ} → record_at_lem file at ≡ There kind start next → record_at_lem file at ≡ There kind start (start + body_length_lem kind)
where_it_ends file at {kind} {start} {next} there =
    let l = there_lies file at there in
    let e : next ≡ start + body_length_lem kind = omega (arith, l.starts, l.goes_on) in
    rw e at there

pub may_condition : (left : Bool) {last : ℕ} → 2 ≤ last → last ≤ 3 → may_follow_lem left last 3 ≡ true
unfolding may_follow_lem
may_condition left {last} l h = rw (le-leb 2 last l, le-leb last 3 h)

pub may_times : (left : Bool) {last : ℕ} → 2 ≤ last → last ≤ 3 → may_follow_lem left last 7 ≡ true
unfolding may_follow_lem
may_times left {last} l h = rw (le-leb 2 last l, le-leb last 3 h)

pub may_action : (left : Bool) {last : ℕ} → 2 ≤ last → last ≤ 3 → may_follow_lem left last 2 ≡ true
unfolding may_follow_lem
may_action left {last} l h = rw (le-leb 1 last (omega arith), le-leb last 3 h)

pub may_action_after_times : (left : Bool) → may_follow_lem left 7 2 ≡ true
unfolding may_follow_lem
may_action_after_times left = refl

-- what comes before the seed comes after no seed
pub before_the_seed : {last : ℕ} → stage last ≤ 4 → last ≢ 5
before_the_seed early e = omega (arith, ap stage e)

pub end_last : (left : Bool) (last : ℕ) → may_follow_lem left last 6 ≡ true → last ≡ 5
unfolding decoded
end_last left last may = may_follow_law left last 6 0 0 0 0 may

further_unless :
    (file : List ℕ) (counts : Bool → List ℕ) (p after : Progress) (f : ℕ)
    → (f ≡ 0 → (p.at < after.at) × Safe file after (counts true))
    → Further file p.at (counts (eqb f 0)) (unless_fault f p after)
further_unless file counts p after zero h = h refl
further_unless file counts p after (suc n) h = rw (eqb-suc-zero n) tt

meets_unless :
    (file : List ℕ) (t : Bool → Tables) (begins : Bool → List ℕ) (p after : Progress) {v : Verdict} (d : Draft) (f : ℕ)
    → v ≡ unless f p.at (onward after.at d)
    → (f ≡ 0 → Stands file after (t true) (begins true) d)
    → Meets file v (t (eqb f 0)) (begins (eqb f 0)) (unless_fault f p after)
unfolding unless
meets_unless file t begins p after d zero e h = (d, e, h refl)
meets_unless file t begins p after d (suc n) e h = rw (eqb-suc-zero n) e

-- the tables with the byte of the last action's row entered where a test holds
abbrev with_byte : Progress → Tables → ℕ → Bool → Tables
with_byte p t byte b =
    tables t.counts
    (action_tables t.acts.setters t.acts.vars t.acts.pres t.acts.posts t.acts.places
    (pick b (set t.acts.manys (p.actions - 1) (byte % 64)) t.acts.manys)
    (pick b (set t.acts.outs (p.actions - 1) (byte / 64)) t.acts.outs))
    t.starts t.goals

module _ (file : List ℕ) (p : Progress) (start next : ℕ) (t : Tables) (begins : List ℕ) (safe : Safe file p t.counts) where
  -- what the entries ask for
  pub action_place : record_at_lem file p.at ≡ There 2 start next → may_follow_lem (ltb p.tasks p.vars) p.last 2 ≡ true → next < 65536
  unfolding decoded body_length_lem body_lengths
  action_place there may =
      let l = there_lies file p.at there in
      let k = may_follow_law (ltb p.tasks p.vars) p.last 2 0 0 0 0 may in
      omega (arith, safe.bounds.short (before_the_seed (omega arith)))

  pub condition_action : may_follow_lem (ltb p.tasks p.vars) p.last 3 ≡ true → 1 ≤ p.actions
  unfolding decoded
  condition_action may = let k = may_follow_law (ltb p.tasks p.vars) p.last 3 0 0 0 0 may in safe.bounds.some_action k.1 k.2

  pub times_action : may_follow_lem (ltb p.tasks p.vars) p.last 7 ≡ true → 1 ≤ p.actions
  unfolding decoded
  times_action may = let k = may_follow_law (ltb p.tasks p.vars) p.last 7 0 0 0 0 may in safe.bounds.some_action k.1 k.2

  few_conditions : p.many ≤ 32
  few_conditions = omega (arith, safe.bounds.fewer, safe.bounds.low)

  pub variable_arm :
      record_at_lem file p.at ≡ There 1 start next
      → may_follow_lem (ltb p.tasks p.vars) p.last 1 ≡ true
      → (n : ℕ) → n ≡ get_or file start 0
      → Answers file p t begins
      (tables (stored (variable_fault_lem p.vars n) t.counts p.vars n) t.acts t.starts t.goals)
      begins (unless_fault (variable_fault_lem p.vars n) p (after_variable p next))
  unfolding decoded taken body_length_lem body_lengths
  variable_arm there may n en =
      let l = there_lies file p.at there in
      let k = may_follow_law (ltb p.tasks p.vars) p.last 1 0 0 0 0 may in
      let f = variable_fault_lem p.vars n in (
        further_unless file (λ b. pick b (set t.counts p.vars n) t.counts) p (after_variable p next) f
            (λ z. (omega arith, record { inside = l.whole; bounds = variable_kept safe.bounds next n z (before_the_seed (omega arith)) (omega arith) })),
        λ d s. meets_unless file (λ b. tables (pick b (set t.counts p.vars n) t.counts) t.acts t.starts t.goals) (λ b. begins) p (after_variable p next)
            (drafted d p.at 1 (variable n)) f
            (rw (variable_fault_is s.knows n, en) (verdict_allowed file p.at d there (allowed_is s.knows 1 ∙ may)))
            (λ z. variable_entered s next n (sym (variable_fault_is s.knows n) ∙ z) k.1),
      )

  pub action_arm :
      record_at_lem file p.at ≡ There 2 start next
      → may_follow_lem (ltb p.tasks p.vars) p.last 2 ≡ true
      → (v x y : ℕ) → v ≡ get_or file start 0 → x ≡ get_or file (start + 1) 0 → y ≡ get_or file (start + 2) 0
      → (f : ℕ) → f ≡ action_fault_lem t.counts p.vars p.actions v x y
      → Answers file p t begins (tables t.counts (stored_action f p.actions v x y next t.acts) t.starts t.goals) begins (unless_fault f p (after_action p v next))
  unfolding decoded taken body_length_lem body_lengths
  action_arm there may v x y ev ex ey f ef =
      let l = there_lies file p.at there in
      let k = may_follow_law (ltb p.tasks p.vars) p.last 2 0 0 0 0 may in
      let a = t.acts in (
        further_unless file (λ b. t.counts) p (after_action p v next) f
            (λ z. (omega arith, record { inside = l.whole; bounds = action_kept safe.bounds next v x y (sym ef ∙ z) (before_the_seed (omega arith)) (omega arith) })),
        λ d s. meets_unless file
            (λ b. tables t.counts
            (action_tables a.setters (pick b (set a.vars p.actions v) a.vars) (pick b (set a.pres p.actions x) a.pres)
            (pick b (set a.posts p.actions y) a.posts) (pick b (set a.places p.actions next) a.places) (pick b (set a.manys p.actions 0) a.manys)
            (pick b (set a.outs p.actions 0) a.outs))
            t.starts t.goals)
            (λ b. begins) p (after_action p v next) (drafted d p.at 2 (action v x y)) f
            (rw (ef ∙ action_fault_is s.knows v x y, ev, ex, ey) (verdict_allowed file p.at d there (allowed_is s.knows 2 ∙ may)))
            (λ z. action_entered s next v x y (sym (action_fault_is s.knows v x y) ∙ (sym ef ∙ z)) k.2 safe.bounds.known_situation (omega arith) l.whole),
      )

  pub condition_arm :
      record_at_lem file p.at ≡ There 3 start next
      → may_follow_lem (ltb p.tasks p.vars) p.last 3 ≡ true
      → (v q : ℕ) → v ≡ get_or file start 0 → q ≡ get_or file (start + 1) 0
      → (f : ℕ) → f ≡ condition_fault_lem t.counts p.vars p.own p.above v q
      → Answers file p t begins (tables t.counts (stored_many f t.acts (p.actions - 1) (p.many + 1)) t.starts t.goals) begins (unless_fault f p (after_condition p v next))
  unfolding decoded taken body_length_lem body_lengths
  condition_arm there may v q ev eq f ef =
      let l = there_lies file p.at there in
      let k = may_follow_law (ltb p.tasks p.vars) p.last 3 0 0 0 0 may in
      let second : get_or file (p.at + 2) 0 ≡ q = sym (eq ∙ ap (λ (i : ℕ). get_or file i 0) (omega arith)) in (
        further_unless file (λ b. t.counts) p (after_condition p v next) f
            (λ z. (omega arith, record { inside = l.whole; bounds = condition_kept safe.bounds next v q (sym ef ∙ z) k.1 k.2 (omega arith) })),
        λ d s. meets_unless file (with_byte p t (p.many + 1)) (λ b. begins) p (after_condition p v next) (drafted d p.at 3 (condition v q)) f
            (rw (ef ∙ condition_fault_is s.knows v q, ev, eq) (verdict_allowed file p.at d there (allowed_is s.knows 3 ∙ may)))
            (λ z. condition_entered s next k.1 k.2 (safe.bounds.some_action k.1 k.2) few_conditions v q (omega arith) l.whole
            (sym (ev ∙ ap (λ (i : ℕ). get_or file i 0) l.starts)) second),
      )

  pub times_arm :
      record_at_lem file p.at ≡ There 7 start next
      → may_follow_lem (ltb p.tasks p.vars) p.last 7 ≡ true
      → (n : ℕ) → n ≡ get_or file start 0
      → Answers file p t begins
      (tables t.counts (stored_many (times_fault_lem n) t.acts (p.actions - 1) (p.many + out_by_lem n p.situation)) t.starts t.goals)
      begins (unless_fault (times_fault_lem n) p (after_times p next))
  unfolding decoded taken body_length_lem body_lengths
  times_arm there may n en =
      let l = there_lies file p.at there in
      let k = may_follow_law (ltb p.tasks p.vars) p.last 7 0 0 0 0 may in (
        further_unless file (λ b. t.counts) p (after_times p next) (times_fault_lem n)
            (λ z. (omega arith, record { inside = l.whole; bounds = times_kept safe.bounds next k.1 k.2 (omega arith) })),
        λ d s. meets_unless file (with_byte p t (p.many + out_by_lem n p.situation)) (λ b. begins) p (after_times p next) (drafted d p.at 7 (times n)) (times_fault_lem n)
            (rw (times_fault_is s.knows n, en) (verdict_allowed file p.at d there (allowed_is s.knows 7 ∙ may)))
            (λ z. times_entered s next k.1 k.2 (safe.bounds.some_action k.1 k.2) few_conditions n),
      )

  pub task_arm :
      record_at_lem file p.at ≡ There 4 start next
      → may_follow_lem (ltb p.tasks p.vars) p.last 4 ≡ true
      → (v x y : ℕ) → v ≡ get_or file start 0 → x ≡ get_or file (start + 1) 0 → y ≡ get_or file (start + 2) 0
      → (f : ℕ) → f ≡ task_fault_lem t.counts p.vars p.tasks v x y
      → Answers file p t begins t begins (unless_fault f p (after_task p next))
  unfolding decoded taken body_length_lem body_lengths
  task_arm there may v x y ev ex ey f ef =
      let l = there_lies file p.at there in
      let k = may_follow_law (ltb p.tasks p.vars) p.last 4 0 0 0 0 may in
      let second : get_or file (p.at + 2) 0 ≡ x = sym (ex ∙ ap (λ (i : ℕ). get_or file i 0) (omega arith)) in
      let third : get_or file (p.at + 3) 0 ≡ y = sym (ey ∙ ap (λ (i : ℕ). get_or file i 0) (omega arith)) in (
        further_unless file (λ b. t.counts) p (after_task p next) f
            (λ z. (omega arith, record { inside = l.whole; bounds = task_kept safe.bounds next v x y (sym ef ∙ z) (before_the_seed k.2) (omega arith) })),
        λ d s. meets_unless file (λ b. t) (λ b. begins) p (after_task p next) (drafted d p.at 4 (task v x y)) f
            (rw (ef ∙ task_fault_is s.knows v x y, ev, ex, ey) (verdict_allowed file p.at d there (allowed_is s.knows 4 ∙ may)))
            (λ z. task_entered s next v x y (sym (task_fault_is s.knows v x y) ∙ (sym ef ∙ z)) k.2 (omega arith) second third),
      )

  -- what entering where a crew begins asks for
  pub seed_place : may_follow_lem (ltb p.tasks p.vars) p.last 5 ≡ true → (p.crews < 8) × (4 * p.tasks ≤ p.at) × (p.at < 65536)
  unfolding decoded
  seed_place may =
      let k = may_follow_law (ltb p.tasks p.vars) p.last 5 0 0 0 0 may in
      let before : p.last ≢ 5 = λ e. omega arith in
      (safe.bounds.room_for_one before, safe.bounds.back before, omega (arith, safe.bounds.short before, safe.bounds.few_crews))

  pub seed_arm :
      record_at_lem file p.at ≡ There 5 start next
      → may_follow_lem (ltb p.tasks p.vars) p.last 5 ≡ true
      → (n : ℕ) → n ≡ seed_of_lem (get_or file start 0) (get_or file (start + 1) 0) (get_or file (start + 2) 0) (get_or file (start + 3) 0)
      → Answers file p t begins t (stored (seed_fault_lem n) begins p.crews (p.at - 4 * p.tasks)) (unless_fault (seed_fault_lem n) p (after_seed p next))
  unfolding decoded taken body_length_lem body_lengths
  seed_arm there may n en =
      let l = there_lies file p.at there in
      let k = may_follow_law (ltb p.tasks p.vars) p.last 5 0 0 0 0 may in
      let before : p.last ≢ 5 = λ e. omega arith in (
        further_unless file (λ b. t.counts) p (after_seed p next) (seed_fault_lem n)
            (λ z. (omega arith, record { inside = l.whole; bounds = seed_kept safe.bounds next before (omega arith) })),
        λ d s. meets_unless file (λ b. t) (λ b. pick b (set begins p.crews (p.at - 4 * p.tasks)) begins) p (after_seed p next)
            (drafted d p.at 5 (seed n)) (seed_fault_lem n)
            (rw (seed_fault_is s.knows n, en) (verdict_allowed file p.at d there (allowed_is s.knows 5 ∙ may)))
            (λ z. seed_entered s next n k.1 (omega (arith, safe.bounds.few_tasks, ltb-false p.tasks p.vars k.2)) (safe.bounds.room_for_one before)
            (omega arith) (en ∙ seed_here l)),
      )
    where
      seed_here :
          Lies file p.at 5 start next
          → seed_of_lem (get_or file start 0) (get_or file (start + 1) 0) (get_or file (start + 2) 0) (get_or file (start + 3) 0) ≡ seed_at_lem file p.at
      seed_here l =
          let e : start ≡ p.at + 1 = l.starts in
          let e1 : start + 1 ≡ p.at + 2 = omega arith in
          let e2 : start + 2 ≡ p.at + 3 = omega arith in
          let e3 : start + 3 ≡ p.at + 4 = omega arith in
          rw (e1, e2, e3, e)

  pub crew_arm :
      record_at_lem file p.at ≡ There 9 start next
      → may_follow_lem (ltb p.tasks p.vars) p.last 9 ≡ true
      → Answers file p t begins t begins (unless_fault (crew_fault_lem p.crews) p (after_crew p next))
  unfolding decoded taken body_length_lem body_lengths
  crew_arm there may =
      let l = there_lies file p.at there in
      let k = may_follow_law (ltb p.tasks p.vars) p.last 9 0 0 0 0 may in (
        further_unless file (λ b. t.counts) p (after_crew p next) (crew_fault_lem p.crews)
            (λ z. (omega arith, record { inside = l.whole; bounds = crew_kept safe.bounds next z k.1 (omega arith) })),
        λ d s. meets_unless file (λ b. t) (λ b. begins) p (after_crew p next) (drafted d p.at 9 crew) (crew_fault_lem p.crews)
            (rw (crew_fault_is s.knows) (verdict_allowed file p.at d there (allowed_is s.knows 9 ∙ may)))
            (λ z. crew_entered s next),
      )

  pub present_arm :
      record_at_lem file p.at ≡ There 8 start next
      → may_follow_lem (ltb p.tasks p.vars) p.last 8 ≡ true
      → (n : ℕ) → n ≡ get_or file start 0
      → Answers file p t begins t begins (unless_fault (present_fault_lem n) p (after_present p n next))
  unfolding decoded taken body_length_lem body_lengths
  present_arm there may n en =
      let l = there_lies file p.at there in
      let k = may_follow_law (ltb p.tasks p.vars) p.last 8 0 0 0 0 may in (
        further_unless file (λ b. t.counts) p (after_present p n next) (present_fault_lem n)
            (λ z. (omega arith, record { inside = l.whole; bounds = present_kept safe.bounds next n z k.1 (omega arith) })),
        λ d s. meets_unless file (λ b. t) (λ b. begins) p (after_present p n next) (drafted d p.at 8 (present n)) (present_fault_lem n)
            (rw (present_fault_is s.knows n, en) (verdict_allowed file p.at d there (allowed_is s.knows 8 ∙ may)))
            (λ z. present_entered s next n k.1),
      )

  pub end_verdict :
      record_at_lem file p.at ≡ There 6 start next
      → may_follow_lem (ltb p.tasks p.vars) p.last 6 ≡ true
      → (d : Draft) → Stands file p t begins d
      → verdict_at file p.at d ≡ settled (ended file next d (first_repeat d.study))
  unfolding decoded taken fault fault_in unless
  end_verdict there may d s = verdict_allowed file p.at d there (allowed_is s.knows 6 ∙ may)

-- what stands where no whole record of a known kind does
module _ (file : List ℕ) (p : Progress) (t : Tables) (begins : List ℕ) where
  pub not_there_arm :
      (f : Found) → record_at_lem file p.at ≡ f → OneOf (1 ∷ 2 ∷ 3 ∷ []) (tag_of the_type f)
      → Answers file p t begins t begins (not_there_lem (ltb p.tasks p.vars) p.last f)
  unfolding judged
  not_there_arm (There kind start next) e h = absurd (none h)
    where
      none : OneOf (1 ∷ 2 ∷ 3 ∷ []) 0 → ⊥
      none (inl x) = omega arith
      none (inr (inl x)) = omega arith
      none (inr (inr x)) = omega arith
  not_there_arm (Unknown place) e h = (tt, λ d s. verdict_by file p.at d e)
  not_there_arm (Cut kind place) e h = (tt, λ d s. rw (← allowed_is s.knows kind) (verdict_by file p.at d e))
  not_there_arm (Ended place) e h = (tt, λ d s. verdict_by file p.at d e)
