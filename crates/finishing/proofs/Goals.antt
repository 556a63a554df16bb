-- The search for the lowest variable away from the goal, one variable after another.
-- Assumes nothing.
use mathlib.Core.Path.{◌≡◌, refl}
use mathlib.Core.List.{List, [], ◌∷◌}
use Prim.Native.Nat.{ℕ, ◌+◌, ◌≤◌, ◌<◌}
use native.Mathlib.Numerals.{add-one}
use native.Mathlib.Omega.{arith}
use lib.Dec.{eqb}
use lib.ListN.{length, get_or, take, drop, drop_of_length-le}
use lib.Seq.{drop-cons, get_or-take}
use borrow.Author.Tests.{eq-eqb, ne_eqb}
use Rattle.std.specs.Prelude.{None, Some}
use Rattle.plain.specs.Choose.{pick}
use Rattle.study.specs.Study.{Task, task_at, no_task}
use Rattle.plans.specs.Plans.{State, value_of}
use Rattle.tables.specs.Tables.{HoldsTasks}
use Rattle.runs.specs.Run.{fails, away}
use Rattle.finishing.specs.Finishing.{fails_of}

away_at :
    (s : State) (tasks : List Task) (v : ℕ) → v < length tasks
    → away s v (drop v tasks) ≡ pick (eqb (value_of s v) (task_at tasks v).goal) (away s (v + 1) (drop (v + 1) tasks)) (fails v)
unfolding away
away_at s tasks v h = rw (drop-cons tasks v no_task h, add-one v)

-- the state that a table shows: the first n entries
pub away-shown : (n : ℕ) (table : State) (v : ℕ) (tasks : List Task) → v + length tasks ≤ n → away (take n table) v tasks ≡ away table v tasks
unfolding away
away-shown n table v [] h = refl
away-shown n table v (k ∷ rest) h = rw (get_or-take n table v 0 (omega arith), away-shown n table (v + 1) rest (omega arith))

module _ {n : ℕ} {starts goals : List ℕ} {tasks : List Task} (holds : HoldsTasks n starts goals tasks) (s : State) where
  -- the variables before v are at their goals
  abbrev There : ℕ → Type 0
  There v = away s v (drop v tasks) ≡ away s 0 tasks

  module _ (v : ℕ) (h : v < n) (there : There v) {goal : ℕ} (is : goal ≡ get_or goals v 0) where
    pub variable_away : (get_or s v 0 ≡ goal → ⊥) → Some v ≡ fails_of (away s 0 tasks)
    variable_away = rw (is, holds.goal v h) (λ o. rw (← there, away_at s tasks v (omega (arith, holds.count)), ne_eqb _ _ o))

    pub variable_there : get_or s v 0 ≡ goal → There (v + 1)
    variable_there = rw (is, holds.goal v h) (λ e. rw (← there, away_at s tasks v (omega (arith, holds.count)), eq-eqb _ _ e))

  pub none_away : (v : ℕ) → n ≤ v → There v → None ≡ fails_of (away s 0 tasks)
  unfolding away
  none_away v h there = rw (← there, drop_of_length-le tasks {i = v} (omega (arith, holds.count)))
