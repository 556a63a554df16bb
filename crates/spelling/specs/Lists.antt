-- The lists that a study file is written from, and the file that they stand for: the records one after another in the file's order.
-- Assumes nothing.
use Rattle.std.specs.Prelude.{ℕ, suc, eqb, List, [], ◌∷◌, ◌++◌, map}
use Rattle.plain.specs.Choose.{pick}
use Rattle.study.specs.Study.{Condition, Action, Task, Crew, Roster, always}
use Rattle.study.specs.Reading.{Record, variable, action, condition, task, seed, end, times, present, crew}
use Rattle.spelling.specs.Spelling.{spelled}

-- a task, with the variable that it names
pub record Errand : Type 0 where
  pub var : ℕ
  pub start : ℕ
  pub goal : ℕ

-- a crew's lists: its tasks, each with the variable that it names, and its seed
pub record Team : Type 0 where
  pub tasks : List Errand
  pub seed : ℕ

-- the situation, how many values each variable has, the actions with their conditions and situations, the crews
pub record Lists : Type 0 where
  pub situation : ℕ
  pub variables : List ℕ
  pub actions : List Action
  pub crews : List Team

-- ---- the file

abbrev pub condition_record : Condition → Record
condition_record c = condition c.var c.value

abbrev pub task_record : Errand → Record
task_record e = task e.var e.start e.goal

-- a set of all eight situations is not written, and neither is situation 0
abbrev pub times_record : ℕ → List Record
times_record n = pick (eqb n always) [] (times n ∷ [])

abbrev pub present_record : ℕ → List Record
present_record n = pick (eqb n 0) [] (present n ∷ [])

-- each action, followed by its conditions and its situations
unfoldable pub action_records : List Action → List Record
action_records [] = []
action_records (a ∷ rest) =
    action a.var a.pre a.post ∷ (map condition_record a.conditions ++ (times_record a.situations ++ action_records rest))

abbrev pub team_records : Team → List Record
team_records k = map task_record k.tasks ++ (seed k.seed ∷ [])

-- the crews behind one, each with its opening, and the end
unfoldable pub behind : List Team → List Record
behind [] = end ∷ []
behind (k ∷ rest) = crew ∷ (team_records k ++ behind rest)

-- the first crew has no opening
unfoldable pub crew_records : List Team → List Record
crew_records [] = end ∷ []
crew_records (k ∷ rest) = team_records k ++ behind rest

unfoldable pub records_of : Lists → List Record
records_of l =
    present_record l.situation ++ (map variable l.variables ++ (action_records l.actions ++ crew_records l.crews))

-- the bytes that the lists stand for
unfoldable pub file_of : Lists → List ℕ
file_of l = spelled (records_of l)

-- ---- the lists of a roster: task v of a crew names variable v

unfoldable pub errands_from : ℕ → List Task → List Errand
errands_from v [] = []
errands_from v (t ∷ rest) = record { var = v; start = t.start; goal = t.goal } ∷ errands_from (suc v) rest

abbrev pub team_of : Crew → Team
team_of k = record { tasks = errands_from 0 k.tasks; seed = k.seed }

abbrev pub lists_of : Roster → Lists
lists_of r = record { situation = r.situation; variables = r.counts; actions = r.actions; crews = map team_of r.crews }
