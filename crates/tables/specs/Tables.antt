-- The tables that one pass over a file fills, as plain lists, and what it means that they hold a study.
-- Assumes nothing.
use Rattle.std.specs.Prelude.{ℕ, ◌+◌, ◌*◌, ◌≤◌, ◌<◌, ◌≡◌, true, List, Result, Ok, Err, eqb, length, get_or}
use Rattle.answer.specs.Answers.{number_of}
use Rattle.answer.specs.declared.Refusal.{Refusal}
use Rattle.study.specs.Study.{Condition, Action, Task, Crew, Roster, Study, in_force, action_at, task_at, crew_at, condition_at}
use Rattle.study.specs.Reading.{says, refused, reading, reading_for}
use Rattle.tables.specs.declared.Loaded.{Loaded}
use Rattle.tables.specs.declared.Read.{Read}

-- by variable and value, at 16 * v + q: the action in force that sets it;
-- by action: its variable, pre and post, the place of its first condition in the file, how many it has, and 0 where it is in force
pub record ActionTables : Type 0 where
  pub setters : List ℕ
  pub vars : List ℕ
  pub pres : List ℕ
  pub posts : List ℕ
  pub places : List ℕ
  pub manys : List ℕ
  pub outs : List ℕ

-- by variable: how many values, its start and its goal
pub record Tables : Type 0 where
  pub counts : List ℕ
  pub acts : ActionTables
  pub starts : List ℕ
  pub goals : List ℕ

abbrev pub action_tables : (setters vars pres posts places manys outs : List ℕ) → ActionTables
action_tables setters vars pres posts places manys outs =
    record { setters = setters; vars = vars; pres = pres; posts = posts; places = places; manys = manys; outs = outs }

abbrev pub tables : List ℕ → ActionTables → List ℕ → List ℕ → Tables
tables counts acts starts goals = record { counts = counts; acts = acts; starts = starts; goals = goals }

-- the tables are as long as their types say
pub record Sized (t : Tables) : Type 0 where
  pub counts : length t.counts ≡ 32
  pub setters : length t.acts.setters ≡ 512
  pub vars : length t.acts.vars ≡ 256
  pub pres : length t.acts.pres ≡ 256
  pub posts : length t.acts.posts ≡ 256
  pub places : length t.acts.places ≡ 256
  pub manys : length t.acts.manys ≡ 256
  pub outs : length t.acts.outs ≡ 256
  pub starts : length t.starts ≡ 32
  pub goals : length t.goals ≡ 32

pub record HoldsCounts (n : ℕ) (table counts : List ℕ) : Type 0 where
  pub count : n ≡ length counts
  pub few : n ≤ 32
  pub small : (v : ℕ) → v < n → get_or table v 0 ≤ 16
  pub value : (v : ℕ) → v < n → get_or table v 0 ≡ get_or counts v 0

-- condition k of an action stands in the file at the place of its first and 3 bytes for each before it: kind, variable, value
pub record HoldsConditions (file : List ℕ) (place many : ℕ) (conditions : List Condition) : Type 0 where
  pub count : many ≡ length conditions
  pub room : place + 3 * many ≤ length file
  pub var : (k : ℕ) → k < many → get_or file (place + 3 * k + 1) 0 ≡ (condition_at conditions k).var
  pub value : (k : ℕ) → k < many → get_or file (place + 3 * k + 2) 0 ≡ (condition_at conditions k).value

-- action i of the tables, in a situation
pub record HoldsAction (file : List ℕ) (situation : ℕ) (t : ActionTables) (i : ℕ) (a : Action) : Type 0 where
  pub var : get_or t.vars i 0 ≡ a.var
  pub pre : get_or t.pres i 0 ≡ a.pre
  pub post : get_or t.posts i 0 ≡ a.post
  pub low : a.var < 32
  pub narrow : a.post < 16
  pub force : eqb (get_or t.outs i 0) 0 ≡ in_force situation a
  pub conditions : HoldsConditions file (get_or t.places i 0) (get_or t.manys i 0) a.conditions

pub record HoldsActions (file : List ℕ) (situation n : ℕ) (t : ActionTables) (actions : List Action) : Type 0 where
  pub count : n ≡ length actions
  pub few : n ≤ 256
  pub action : (i : ℕ) → i < n → HoldsAction file situation t i (action_at actions i)

-- the table of setters names each action in force for the value that it sets
abbrev pub NamesSetters : (situation n : ℕ) → (setters : List ℕ) → List Action → Type 0
NamesSetters situation n setters actions =
    (i : ℕ) → i < n → in_force situation (action_at actions i) ≡ true
    → get_or setters (16 * (action_at actions i).var + (action_at actions i).post) 0 ≡ i

pub record HoldsTasks (n : ℕ) (starts goals : List ℕ) (tasks : List Task) : Type 0 where
  pub count : n ≡ length tasks
  pub start : (v : ℕ) → v < n → get_or starts v 0 ≡ (task_at tasks v).start
  pub goal : (v : ℕ) → v < n → get_or goals v 0 ≡ (task_at tasks v).goal

-- the tables, with the numbers of variables and actions and the seed, hold the study that a file says
pub record Holds (file : List ℕ) (nv na x : ℕ) (t : Tables) (s : Study) : Type 0 where
  pub sized : Sized t
  pub counts : HoldsCounts nv t.counts s.counts
  pub actions : HoldsActions file s.situation na t.acts s.actions
  pub setters : NamesSetters s.situation na t.acts.setters s.actions
  pub tasks : HoldsTasks nv t.starts t.goals s.tasks
  pub seed : x ≡ s.seed

-- what is loaded for a crew answers to what the file says to it
abbrev pub Loads : List ℕ → ℕ → Tables → Result Loaded Refusal → Type 0
Loads file crew t (Ok l) = (s : Study) × (reading_for file crew ≡ says s) × Holds file l.vars l.actions l.seed t s
Loads file crew t (Err r) = reading_for file crew ≡ refused (number_of r.rule) r.place

-- ---- all crews, whose tasks and seeds stay in the file

-- the seed of the record at a place
abbrev pub seed_of_lem : ℕ → ℕ → ℕ → ℕ → ℕ
seed_of_lem a b c d = ((a * 256 + b) * 256 + c) * 256 + d

abbrev pub seed_at_lem : List ℕ → ℕ → ℕ
seed_at_lem file at = seed_of_lem (get_or file (at + 1) 0) (get_or file (at + 2) 0) (get_or file (at + 3) 0) (get_or file (at + 4) 0)

-- a crew's tasks stand in the file from a place on, four bytes each: kind, variable, start, goal; its seed stands behind them
pub record HoldsCrew (file : List ℕ) (place n : ℕ) (k : Crew) : Type 0 where
  pub count : n ≡ length k.tasks
  pub room : place + 4 * n + 5 ≤ length file
  pub start : (v : ℕ) → v < n → get_or file (place + 4 * v + 2) 0 ≡ (task_at k.tasks v).start
  pub goal : (v : ℕ) → v < n → get_or file (place + 4 * v + 3) 0 ≡ (task_at k.tasks v).goal
  pub seed : seed_at_lem file (place + 4 * n) ≡ k.seed

-- by crew: the place of its first task
pub record HoldsCrews (file : List ℕ) (n count : ℕ) (places : List ℕ) (crews : List Crew) : Type 0 where
  pub long : length places ≡ 8
  pub count_is : count ≡ length crews
  pub few : count ≤ 8
  pub crew : (c : ℕ) → c < count → HoldsCrew file (get_or places c 0) n (crew_at crews c)

-- the tables, with the numbers of variables, actions and crews, hold the roster that a file says
pub record HoldsRoster (file : List ℕ) (nv na nc : ℕ) (t : Tables) (places : List ℕ) (r : Roster) : Type 0 where
  pub sized : Sized t
  pub counts : HoldsCounts nv t.counts r.counts
  pub actions : HoldsActions file r.situation na t.acts r.actions
  pub setters : NamesSetters r.situation na t.acts.setters r.actions
  pub crews : HoldsCrews file nv nc places r.crews

-- what is read answers to what the file says
abbrev pub Reads : List ℕ → Tables → List ℕ → Result Read Refusal → Type 0
Reads file t places (Ok l) = (r : Roster) × (reading file ≡ says r) × HoldsRoster file l.vars l.actions l.crews t places r
Reads file t places (Err r) = reading file ≡ refused (number_of r.rule) r.place
