-- Runs of records that are taken one after another: the situation, variables, actions, each with its conditions and its situations, and crews, each with its tasks and its seed.
-- Assumes nothing.
use mathlib.Core.Path.{◌≡◌, refl, sym}
use mathlib.Core.Bool.{Bool, true}
use mathlib.Core.List.{List}
use Prim.Native.Nat.{ℕ, ◌+◌, ◌-◌, ◌*◌, ◌/◌, ◌%◌, ◌≤◌}
use native.Mathlib.Omega.{arith}
use lib.Dec.{eqb, ltb}
use lib.ListN.{get_or, set}
use lib.Seq.{set-set, set-get_or}
use Rattle.records.specs.Records.{record_at_lem}
use Rattle.records.specs.declared.Found.TheVariants.{There}
use Rattle.study.specs.Reading.{may_follow_lem}
use Rattle.tables.specs.Tables.{ActionTables, Tables, tables, seed_of_lem}
use Rattle.judging.specs.Faults.{variable_fault_lem, action_fault_lem, condition_fault_lem, task_fault_lem, seed_fault_lem, times_fault_lem, present_fault_lem, crew_fault_lem}
use Rattle.advancing.specs.declared.Progress.{Progress}
use Rattle.advancing.specs.declared.Step.TheVariants.{On}
use Rattle.advancing.specs.Steps.{after_variable, after_action, after_condition, after_task, after_seed, after_times, after_present, after_crew, stored, stored_action, with_many, stored_many, out_by_lem}
use Rattle.standing.specs.Reads.{Safe}
use Rattle.standing.specs.Halfway.{Halfway}
use Rattle.standing.proofs.Arms.{Answers, may_condition, may_times, variable_arm, action_arm, condition_arm, task_arm, seed_arm, times_arm, present_arm, crew_arm}
use Rattle.standing.proofs.Pass.{goes_on}

-- the conditions of the last action: the tables are told of with their number entered, though it is entered only after the last of them
abbrev pub Entered : ActionTables → Progress → ActionTables
Entered acts p = with_many acts (p.actions - 1) p.many

module _ {file : List ℕ} {p : Progress} {counts : List ℕ} (low : 2 ≤ p.last) (high : p.last ≤ 3) (acts : ActionTables) {starts goals begins : List ℕ} where
  -- before the first condition of a run it is entered already
  pub many_entered : Safe file p counts → Halfway file (tables counts acts starts goals) begins p → Halfway file (tables counts (Entered acts p) starts goals) begins p
  many_entered safe h =
      let small : p.many % 64 ≡ p.many = omega (arith, safe.bounds.fewer, safe.bounds.low) in
      let in_force_lem : p.many / 64 ≡ 0 = omega (arith, safe.bounds.fewer, safe.bounds.low) in
      let manys : set acts.manys (p.actions - 1) (p.many % 64) ≡ acts.manys =
      rw (small, ← h.stands.counted low high) (set-get_or acts.manys (p.actions - 1) 0) in
      let outs : set acts.outs (p.actions - 1) (p.many / 64) ≡ acts.outs =
      rw (in_force_lem, ← h.stands.still_in low high) (set-get_or acts.outs (p.actions - 1) 0) in
      rw (manys, outs) h

  pub condition_taken :
      Safe file p counts
      → record_at_lem file p.at ≡ There 3 (p.at + 1) (p.at + 1 + 2)
      → (v q : ℕ) → v ≡ get_or file (p.at + 1) 0 → q ≡ get_or file (p.at + 2) 0
      → condition_fault_lem counts p.vars p.own p.above v q ≡ 0
      → Halfway file (tables counts (Entered acts p) starts goals) begins p
      → Halfway file (tables counts (Entered acts (after_condition p v (p.at + 3))) starts goals) begins (after_condition p v (p.at + 3))
  condition_taken safe there v q ev eq good h =
      let next : p.at + 1 + 2 ≡ p.at + 3 = omega arith in
      let second : p.at + 1 + 1 ≡ p.at + 2 = omega arith in
      goes_on safe h
      (rw (set-set acts.manys, set-set acts.outs) at
      (condition_arm file p (p.at + 1) (p.at + 3) (tables counts (Entered acts p) starts goals) begins safe
      (rw next at there) (may_condition _ low high) v q ev (rw second eq) 0 (sym good)))

  -- the situations after a run, entered with the number of its conditions
  pub times_taken :
      Safe file p counts
      → record_at_lem file p.at ≡ There 7 (p.at + 1) (p.at + 1 + 1)
      → (n : ℕ) → n ≡ get_or file (p.at + 1) 0
      → eqb (times_fault_lem n) 0 ≡ true
      → Halfway file (tables counts (Entered acts p) starts goals) begins p
      → Halfway file (tables counts (stored_many (times_fault_lem n) acts (p.actions - 1) (p.many + out_by_lem n p.situation)) starts goals) begins (after_times p (p.at + 2))
  times_taken safe there n en good h =
      let next : p.at + 1 + 1 ≡ p.at + 2 = omega arith in
      rw good
      (goes_on safe h
      (rw (good, set-set acts.manys, set-set acts.outs) at
      (times_arm file p (p.at + 1) (p.at + 2) (tables counts (Entered acts p) starts goals) begins safe (rw next at there) (may_times _ low high) n en)))

-- an action that may follow, without fault
pub action-taken :
    (file : List ℕ) (p : Progress) (t : Tables) (begins : List ℕ)
    → Safe file p t.counts
    → may_follow_lem (ltb p.tasks p.vars) p.last 2 ≡ true
    → record_at_lem file p.at ≡ There 2 (p.at + 1) (p.at + 1 + 3)
    → (v x y : ℕ) → v ≡ get_or file (p.at + 1) 0 → x ≡ get_or file (p.at + 2) 0 → y ≡ get_or file (p.at + 3) 0
    → (f : ℕ) → f ≡ action_fault_lem t.counts p.vars p.actions v x y
    → eqb f 0 ≡ true
    → Answers file p t begins (tables t.counts (stored_action f p.actions v x y (p.at + 4) t.acts) t.starts t.goals) begins (On (after_action p v (p.at + 4)))
action-taken file p t begins safe may there v x y ev ex ey f ef good =
    let next : p.at + 1 + 3 ≡ p.at + 4 = omega arith in
    let second : p.at + 1 + 1 ≡ p.at + 2 = omega arith in
    let third : p.at + 1 + 2 ≡ p.at + 3 = omega arith in
    rw good (rw good at (action_arm file p (p.at + 1) (p.at + 4) t begins safe (rw next at there) may v x y ev (rw second ex) (rw third ey) f ef))

pub may_variable : (left : Bool) {last : ℕ} → last ≡ 1 → may_follow_lem left last 1 ≡ true
unfolding may_follow_lem
may_variable left e = rw e refl

pub may_task : {left : Bool} {last : ℕ} → last ≡ 4 → left ≡ true → may_follow_lem left last 4 ≡ true
unfolding may_follow_lem
may_task e l = rw (e, l) refl

may_crew : (left : Bool) {last : ℕ} → last ≡ 5 → may_follow_lem left last 9 ≡ true
unfolding may_follow_lem
may_crew left e = rw e refl

-- a situation that may follow, without fault
pub present_taken :
    (file : List ℕ) (p : Progress) (t : Tables) (begins : List ℕ)
    → Safe file p t.counts
    → may_follow_lem (ltb p.tasks p.vars) p.last 8 ≡ true
    → record_at_lem file p.at ≡ There 8 (p.at + 1) (p.at + 1 + 1)
    → (n : ℕ) → n ≡ get_or file (p.at + 1) 0
    → eqb (present_fault_lem n) 0 ≡ true
    → Answers file p t begins t begins (On (after_present p n (p.at + 2)))
present_taken file p t begins safe may there n en good =
    let next : p.at + 1 + 1 ≡ p.at + 2 = omega arith in
    rw good at (present_arm file p (p.at + 1) (p.at + 2) t begins safe (rw next at there) may n en)

-- a variable that may follow, without fault
pub variable-taken :
    (file : List ℕ) (p : Progress) (t : Tables) (begins : List ℕ)
    → Safe file p t.counts
    → may_follow_lem (ltb p.tasks p.vars) p.last 1 ≡ true
    → record_at_lem file p.at ≡ There 1 (p.at + 1) (p.at + 1 + 1)
    → (n : ℕ) → n ≡ get_or file (p.at + 1) 0
    → eqb (variable_fault_lem p.vars n) 0 ≡ true
    → Answers file p t begins (tables (stored (variable_fault_lem p.vars n) t.counts p.vars n) t.acts t.starts t.goals) begins (On (after_variable p (p.at + 2)))
variable-taken file p t begins safe may there n en good =
    let next : p.at + 1 + 1 ≡ p.at + 2 = omega arith in
    rw good (rw good at (variable_arm file p (p.at + 1) (p.at + 2) t begins safe (rw next at there) may n en))

-- a task that may follow, without fault
pub task-taken :
    (file : List ℕ) (p : Progress) (t : Tables) (begins : List ℕ)
    → Safe file p t.counts
    → may_follow_lem (ltb p.tasks p.vars) p.last 4 ≡ true
    → record_at_lem file p.at ≡ There 4 (p.at + 1) (p.at + 1 + 3)
    → (v x y : ℕ) → v ≡ get_or file (p.at + 1) 0 → x ≡ get_or file (p.at + 2) 0 → y ≡ get_or file (p.at + 3) 0
    → (f : ℕ) → f ≡ task_fault_lem t.counts p.vars p.tasks v x y
    → eqb f 0 ≡ true
    → Answers file p t begins t begins (On (after_task p (p.at + 4)))
task-taken file p t begins safe may there v x y ev ex ey f ef good =
    let next : p.at + 1 + 3 ≡ p.at + 4 = omega arith in
    let second : p.at + 1 + 1 ≡ p.at + 2 = omega arith in
    let third : p.at + 1 + 2 ≡ p.at + 3 = omega arith in
    rw good at
    (task_arm file p (p.at + 1) (p.at + 4) t begins safe (rw next at there) may v x y ev (rw second ex) (rw third ey) f ef)

-- a seed that may follow, without fault
pub seed_taken :
    (file : List ℕ) (p : Progress) (t : Tables) (begins : List ℕ)
    → Safe file p t.counts
    → may_follow_lem (ltb p.tasks p.vars) p.last 5 ≡ true
    → record_at_lem file p.at ≡ There 5 (p.at + 1) (p.at + 1 + 4)
    → (n : ℕ) → n ≡ seed_of_lem (get_or file (p.at + 1) 0) (get_or file (p.at + 2) 0) (get_or file (p.at + 3) 0) (get_or file (p.at + 4) 0)
    → eqb (seed_fault_lem n) 0 ≡ true
    → Answers file p t begins t (stored (seed_fault_lem n) begins p.crews (p.at - 4 * p.tasks)) (On (after_seed p (p.at + 5)))
seed_taken file p t begins safe may there n en good =
    let next : p.at + 1 + 4 ≡ p.at + 5 = omega arith in
    let second : p.at + 1 + 1 ≡ p.at + 2 = omega arith in
    let third : p.at + 1 + 2 ≡ p.at + 3 = omega arith in
    let fourth : p.at + 1 + 3 ≡ p.at + 4 = omega arith in
    rw good (rw good at (seed_arm file p (p.at + 1) (p.at + 5) t begins safe (rw next at there) may n (rw (second, third, fourth) en)))

-- the opening of the next crew after a seed, without fault
pub crew_taken :
    (file : List ℕ) (p : Progress) (t : Tables) (begins : List ℕ)
    → Safe file p t.counts
    → p.last ≡ 5
    → record_at_lem file p.at ≡ There 9 (p.at + 1) (p.at + 1 + 0)
    → eqb (crew_fault_lem p.crews) 0 ≡ true
    → Answers file p t begins t begins (On (after_crew p (p.at + 1)))
crew_taken file p t begins safe last there good =
    let next : p.at + 1 + 0 ≡ p.at + 1 = omega arith in
    rw good at (crew_arm file p (p.at + 1) (p.at + 1) t begins safe (rw next at there) (may_crew _ last))
