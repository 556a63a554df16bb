-- Which kinds may come after which, as the lists come one after another, and how far the place is then.
-- Assumes nothing.
use mathlib.Core.Path.{◌≡◌}
use mathlib.Core.Logic.{◌⊎◌, inl, inr, ◌≢◌}
use mathlib.Core.Bool.{Bool, true, false, ◌&&◌, and-eq-true_iff, and-false, or-true, false≢true}
use mathlib.Core.List.{List, [], ◌∷◌, ◌++◌, map}
use Prim.Native.Nat.{ℕ, ◌≤◌, ◌<◌}
use native.Mathlib.Omega.{arith}
use native.Mathlib.Decide.{ℕ_discrete}
use lib.Dec.{leb, ltb, eqb}
use borrow.Author.Tests.{leb-true, le-leb, le-ltb, lt-ltb}
use Rattle.plain.proofs.Tests.{either}
use Rattle.study.specs.Study.{Action}
use Rattle.study.specs.Reading.{Record, variable, action, condition, task, seed, end, times, present, crew, may_follow_lem}
use Rattle.advancing.specs.declared.Progress.{Progress}
use Rattle.standing.specs.Reads.{Bounds}
use Rattle.spelling.specs.Spelling.{kind_of}
use Rattle.spelling.specs.Lists.{Errand, Team, task_record, action_records, behind, crew_records}
use Rattle.drafts.specs.Drafts.{NoVariableYet, VariablesGoOn, ActionsGoOn, TasksGoOn, BehindVariables}

module _ {last : ℕ} where
  pub first_variable : NoVariableYet last → VariablesGoOn last
  unfolding may_follow_lem
  first_variable (inl e) = rw e
  first_variable (inr e) = rw e

  pub next_variable : last ≡ 1 → VariablesGoOn last
  unfolding may_follow_lem
  next_variable e = rw e

  pub first_action : last ≡ 1 → ActionsGoOn last
  unfolding may_follow_lem
  first_action e = rw e

  pub behind_conditions : 2 ≤ last → last ≤ 3 → ActionsGoOn last
  unfolding may_follow_lem
  behind_conditions low high = rw (le-leb 1 last (omega arith), le-leb last 3 high)

  pub behind_situations : last ≡ 7 → ActionsGoOn last
  unfolding may_follow_lem
  behind_situations e = rw e

  pub next-task : last ≡ 4 → TasksGoOn last
  unfolding may_follow_lem
  next-task e = rw e

  pub first_task : last ≡ 9 → TasksGoOn last
  unfolding may_follow_lem
  first_task e = rw e

  -- none of them comes behind the seed
  pub variable_early : VariablesGoOn last → last ≢ 5
  unfolding may_follow_lem
  variable_early h e = false≢true (rw e at h)

  pub action_early : ActionsGoOn last → last ≢ 5
  unfolding may_follow_lem
  action_early h e = false≢true (rw e at h)

  pub task_early : TasksGoOn last → last ≢ 5
  unfolding may_follow_lem
  task_early h e = false≢true (rw e at h)

  -- before a variable none of the others may come
  pub too_early : NoVariableYet last → (r : Record) → 2 ≤ kind_of r → kind_of r ≤ 6 → (left : Bool) → may_follow_lem left last (kind_of r) ≡ false
  unfolding may_follow_lem
  too_early (inl e) (variable n) low high left = absurd (omega arith)
  too_early (inl e) (action v p q) low high left = rw e
  too_early (inl e) (condition v q) low high left = rw e
  too_early (inl e) (task v p q) low high left = rw e
  too_early (inl e) (seed n) low high left = rw e
  too_early (inl e) end low high left = rw e
  too_early (inl e) (times n) low high left = absurd (omega arith)
  too_early (inl e) (present n) low high left = absurd (omega arith)
  too_early (inl e) crew low high left = absurd (omega arith)
  too_early (inr e) (variable n) low high left = absurd (omega arith)
  too_early (inr e) (action v p q) low high left = rw e
  too_early (inr e) (condition v q) low high left = rw e
  too_early (inr e) (task v p q) low high left = rw e
  too_early (inr e) (seed n) low high left = rw e
  too_early (inr e) end low high left = rw e
  too_early (inr e) (times n) low high left = absurd (omega arith)
  too_early (inr e) (present n) low high left = absurd (omega arith)
  too_early (inr e) crew low high left = absurd (omega arith)

module _ (last : ℕ) where
  pub behind_actions : ActionsGoOn last → TasksGoOn last
  unfolding may_follow_lem
  behind_actions h = go (either (leb 1 last && leb last 3) (eqb last 7) h)
    where
      go : ((leb 1 last && leb last 3) ≡ true) ⊎ (eqb last 7 ≡ true) → TasksGoOn last
      go (inl m) =
          let t = (and-eq-true_iff (leb 1 last) (leb last 3)).0 m in
          rw (t.0, le-leb last 4 (omega (arith, leb-true last 3 t.1)))
      go (inr m) = rw (m, or-true (leb 1 last && leb last 4))

  -- a task is wanted as long as some variable lacks one
  pub task_wanted : {tasks vars : ℕ} → TasksGoOn last → tasks < vars → may_follow_lem (ltb tasks vars) last 4 ≡ true
  task_wanted {tasks} {vars} h less = rw (lt-ltb tasks vars less) h

  pub no_task_wanted : {tasks vars : ℕ} → vars ≤ tasks → may_follow_lem (ltb tasks vars) last 4 ≡ false
  unfolding may_follow_lem
  no_task_wanted {tasks} {vars} all = rw (le-ltb tasks vars all, and-false)

-- the place is near
pub not_far : {p : Progress} {counts : List ℕ} → Bounds p counts → p.at ≤ 30000
not_far {p} {counts} bounds = from (ℕ_discrete p.last 5)
  where
    from : Dec (p.last ≡ 5) → p.at ≤ 30000
    from (yes seeded) = omega (arith, bounds.seeded seeded, bounds.few_vars, bounds.few_actions, bounds.few_crews, bounds.low)
    from (no early) = omega (arith, bounds.short early, bounds.few_vars, bounds.few_actions, bounds.few_tasks, bounds.few_crews, bounds.low)

-- behind the variables come actions, crews, the end
pub others_follow : (actions : List Action) (teams : List Team) → BehindVariables (action_records actions ++ crew_records teams)
unfolding action_records crew_records
others_follow [] [] = omega arith
others_follow [] (k ∷ rest) = from k.tasks
  where
    from : (tasks : List Errand) → BehindVariables ((map task_record tasks ++ (seed k.seed ∷ [])) ++ behind rest)
    from [] = omega arith
    from (t ∷ tasks) = omega arith
others_follow (a ∷ actions) teams = omega arith
