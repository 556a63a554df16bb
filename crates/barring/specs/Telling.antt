-- How what was loaded tells a study: its actions by their rows, its tasks, and a state by a table of 32 entries.
-- Assumes nothing.
use Rattle.std.specs.Prelude.{ℕ, ◌<◌, ◌≡◌, List, eqb, length, get_or, take}
use Rattle.study.specs.Study.{Action, Study, in_force, action_at, condition_at}
use Rattle.lawful.specs.Lawful.{Lawful}
use Rattle.plans.specs.Plans.{State}
use Rattle.tables.specs.Tables.{HoldsConditions, HoldsTasks}
use Rattle.tables.specs.Rows.{Row, out_column, start_column, goal_column, OpensAction}
use Rattle.tables.specs.declared.Act.{Act}

-- an opened row tells an action, whose variables are small enough for the table of the state
pub record Tells (file : List ℕ) (act : Act) (a : Action) : Type 0 where
  pub var : act.var ≡ a.var
  pub pre : act.pre ≡ a.pre
  pub post : act.post ≡ a.post
  pub conditions : HoldsConditions file act.place act.many a.conditions
  pub small : a.var < 32
  pub smalls : (k : ℕ) → k < length a.conditions → (condition_at a.conditions k).var < 32

-- the rows tell the actions of a lawful study
pub record Ready (file : List ℕ) (actions : ℕ) (acts : List Row) (t : Study) : Type 0 where
  pub lawful : Lawful t
  pub count : actions ≡ length t.actions
  pub action : (i : ℕ) {act : Act} → i < actions → OpensAction acts i act → Tells file act (action_at t.actions i)
  pub force : (i : ℕ) → i < actions → eqb (get_or (out_column acts) i 0) 0 ≡ in_force t.situation (action_at t.actions i)

-- all that was loaded: the actions, the starts and the goals
pub record Prepared (file : List ℕ) (n actions : ℕ) (acts vars : List Row) (t : Study) : Type 0 where
  pub ready : Ready file actions acts t
  pub counted : n ≡ length t.counts
  pub tasks : HoldsTasks n (start_column vars) (goal_column vars) t.tasks

-- the state that a table of 32 entries holds
abbrev pub shown : Study → List ℕ → State
shown t table = take (length t.counts) table
