-- What a file holds, its situation, variables, actions and crews; and a study, which is what it holds for one crew: as document 01 and the requests of document 02 name them.
-- Assumes nothing.
use Rattle.std.specs.Prelude.{ℕ, Bool, List, [], get_or}
use Rattle.bits.specs.Bits.{bit}

pub record Condition : Type 0 where
  pub var : ℕ
  pub value : ℕ

-- `situations` is the set of situations in which the action holds: bit s, worth 2^s, for situation s
pub record Action : Type 0 where
  pub var : ℕ
  pub pre : ℕ
  pub post : ℕ
  pub conditions : List Condition
  pub situations : ℕ

pub record Task : Type 0 where
  pub start : ℕ
  pub goal : ℕ

-- a crew: its tasks, task v that of variable v, and its seed
pub record Crew : Type 0 where
  pub tasks : List Task
  pub seed : ℕ

-- `counts` says how many values each variable has
pub record Roster : Type 0 where
  pub situation : ℕ
  pub counts : List ℕ
  pub actions : List Action
  pub crews : List Crew

-- the same with the tasks and the seed of one crew
pub record Study : Type 0 where
  pub situation : ℕ
  pub counts : List ℕ
  pub actions : List Action
  pub tasks : List Task
  pub seed : ℕ

-- a set of all eight situations
abbrev pub always : ℕ
always = 255

-- an action is in force in a situation if its set has it
unfoldable pub in_force : ℕ → Action → Bool
in_force situation a = bit a.situations situation

-- what stands past the end of a list of actions: it is never in force
abbrev pub no_action : Action
no_action = record { var = 0; pre = 0; post = 0; conditions = []; situations = 0 }

abbrev pub no_crew : Crew
no_crew = record { tasks = []; seed = 0 }

abbrev pub no_task : Task
no_task = record { start = 0; goal = 0 }

abbrev pub no_condition : Condition
no_condition = record { var = 0; value = 0 }

abbrev pub action_at : List Action → ℕ → Action
action_at actions i = get_or actions i no_action

abbrev pub crew_at : List Crew → ℕ → Crew
crew_at crews c = get_or crews c no_crew

-- the study of a crew
abbrev pub study_of : Roster → Crew → Study
study_of r k = record { situation = r.situation; counts = r.counts; actions = r.actions; tasks = k.tasks; seed = k.seed }

abbrev pub task_at : List Task → ℕ → Task
task_at tasks v = get_or tasks v no_task

abbrev pub condition_at : List Condition → ℕ → Condition
condition_at conditions k = get_or conditions k no_condition
