-- What is known of a loaded study, as the finders ask for it.
-- Assumes nothing.
use mathlib.Core.Path.{◌≡◌}
use mathlib.Core.List.{List}
use Prim.Native.Nat.{ℕ, ◌≤◌, ◌<◌}
use native.Mathlib.Omega.{arith}
use lib.ListN.{length, get_or}
use Rattle.study.specs.Study.{Study}
use Rattle.lawful.specs.Lawful.{Lawful}
use Rattle.tables.specs.Tables.{ActionTables}
use Rattle.walks.specs.Walks.{Walk, post_of, start_of, goal_of}
use Rattle.walks.proofs.Leads.{on_walk_usable}
use Rattle.walks.proofs.Wanted.{wanted_there}
use Rattle.planning.specs.Planning.{LowestOff}
use Rattle.tracing.specs.Facts.{Tells}
use Rattle.tracing.specs.Steps.{RowTo, Rowed}
use Rattle.tracing.proofs.Ranges.{few_tasks, goal_small}
use Rattle.wanting.specs.Wanting.{StandAt}
use Rattle.stages.specs.Whole.{Known}

module _ {file : List ℕ} {n a x : ℕ} {acts : ActionTables} {starts goals : List ℕ} {t : Study} (known : Known file n a x acts starts goals t) where
  pub few_variables : length t.tasks ≤ 32
  few_variables = few_tasks known.lawful

  pub known_start : (v : ℕ) → v < length t.tasks → get_or starts v 0 ≡ start_of t v
  known_start v h = known.tasks.start v (omega (arith, known.variables))

  pub known_goal : (v : ℕ) → v < length t.tasks → get_or goals v 0 ≡ goal_of t v
  known_goal v h = known.tasks.goal v (omega (arith, known.variables))

  pub known_goal_small : (v : ℕ) → v < length t.tasks → get_or goals v 0 < 16
  known_goal_small v h = rw (known_goal v h) (goal_small known.lawful v h)

  -- the conditions of an action
  pub known_stands : (i : ℕ) → i < length t.actions → StandAt file (get_or acts.places i 0) (get_or acts.manys i 0) t i
  known_stands i h =
      record { lawful = known.lawful; there = h; holds = (known.actions.action i (omega (arith, known.actions.count))).conditions }

  pub few_actions : length t.actions ≤ 256
  few_actions = known.lawful.few_actions

  pub known_posts : Tells post_of (length t.actions) acts.posts t
  known_posts i h = (known.actions.action i (omega (arith, known.actions.count))).post

  -- the walk of a variable, entered
  pub known_row : {steps : List ℕ} → Rowed t n steps → (u : ℕ) → u < length t.tasks → (list : List ℕ) × (Walk t u list × RowTo t u list (goal_of t u) steps)
  known_row rowed u h = rowed u (omega (arith, known.variables))

-- the action of refusal 11, and its variable, are there
module _ {t : Study} {i u : ℕ} (off : LowestOff t i u) where
  pub off_there : i < length t.actions
  off_there = (on_walk_usable off.on_walk_lem).there

  pub off_variable_lem : Lawful t → u < length t.tasks
  off_variable_lem lawful = rw lawful.a_task_each (wanted_there (lawful.action i off_there).conditions u off.value off.wants_it)
