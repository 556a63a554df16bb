-- How large the numbers of a lawful study are: variables, values and actions.
-- Assumes nothing.
use mathlib.Core.Path.{◌≡◌}
use mathlib.Core.List.{List}
use Prim.Native.Nat.{ℕ, ◌≤◌, ◌<◌}
use native.Mathlib.Omega.{arith}
use lib.ListN.{length, get_or}
use Rattle.study.specs.Study.{Study}
use Rattle.lawful.specs.Lawful.{Has, Lawful}
use Rattle.walks.specs.Walks.{pre_of, post_of, start_of, goal_of}
use Rattle.tracing.specs.Facts.{Moves}

module _ {t : Study} (lawful : Lawful t) where
  value_small : {v q : ℕ} → Has t.counts v q → q < 16
  value_small {v} {q} h = omega (arith, h.small, lawful.few_values v h.there)

  pub pre_small : (i : ℕ) → i < length t.actions → pre_of t i < 16
  pre_small i h = value_small (lawful.action i h).has_pre

  pub post_small : (i : ℕ) → i < length t.actions → post_of t i < 16
  post_small i h = value_small (lawful.action i h).has_post

  pub start_small : (v : ℕ) → v < length t.tasks → start_of t v < 16
  start_small v h = value_small (lawful.has_start v h)

  pub goal_small : (v : ℕ) → v < length t.tasks → goal_of t v < 16
  goal_small v h = value_small (lawful.has_goal v h)

  pub few_tasks : length t.tasks ≤ 32
  few_tasks = omega (arith, lawful.a_task_each, lawful.few_variables)

module _ {a : ℕ} {setters vars pres posts outs : List ℕ} {t : Study} (moves : Moves a setters vars pres posts outs t) where
  pub few_actions : a ≤ 256
  few_actions = omega (arith, moves.actions, moves.lawful.few_actions)

  pub told_pre : (i : ℕ) → i < length t.actions → get_or pres i 0 ≡ pre_of t i
  told_pre i h = moves.tells_pre i (omega (arith, moves.actions))

  pub told_pre_small : (i : ℕ) → i < length t.actions → get_or pres i 0 < 16
  told_pre_small i h = rw (told_pre i h) (pre_small moves.lawful i h)
