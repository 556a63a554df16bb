-- Lawful studies and rosters: the limits of document 01 and the SAS demands on actions (values in range, pre differs from post, post_unique within the situation, conditions rising and on other variables), and document 02's that each variable is used.
-- Assumes nothing.
use Rattle.std.specs.Prelude.{ℕ, suc, ◌≤◌, ◌<◌, ◌≡◌, ◌≢◌, true, List, length, get_or}
use Rattle.study.specs.Uses.{uses}
use Rattle.study.specs.Study.{Condition, Action, Crew, Roster, Study, in_force, action_at, task_at, crew_at, condition_at}

-- the variable is there, and the value is one of its values
pub record Has (counts : List ℕ) (v q : ℕ) : Type 0 where
  pub there : v < length counts
  pub small : q < get_or counts v 0

pub record LawfulConditions (counts : List ℕ) (own : ℕ) (conditions : List Condition) : Type 0 where
  pub has : (k : ℕ) → k < length conditions → Has counts (condition_at conditions k).var (condition_at conditions k).value
  pub other : (k : ℕ) → k < length conditions → (condition_at conditions k).var ≢ own
  pub rising : (k : ℕ) → suc k < length conditions → (condition_at conditions k).var < (condition_at conditions (suc k)).var

pub record LawfulAction (counts : List ℕ) (a : Action) : Type 0 where
  pub has_pre : Has counts a.var a.pre
  pub has_post : Has counts a.var a.post
  pub changes : a.pre ≢ a.post
  pub conditions : LawfulConditions counts a.var a.conditions

-- no two actions that are in force in the situation set the same variable to the same value
abbrev pub PostUnique : ℕ → List Action → Type 0
PostUnique situation actions =
    (i j : ℕ) → i < length actions → j < length actions
    → in_force situation (action_at actions i) ≡ true → in_force situation (action_at actions j) ≡ true
    → (action_at actions i).var ≡ (action_at actions j).var
    → (action_at actions i).post ≡ (action_at actions j).post
    → i ≡ j

pub record Lawful (s : Study) : Type 0 where
  pub situation : s.situation ≤ 7
  pub some_variable : 1 ≤ length s.counts
  pub few_variables : length s.counts ≤ 32
  pub some_values : (v : ℕ) → v < length s.counts → 2 ≤ get_or s.counts v 0
  pub few_values : (v : ℕ) → v < length s.counts → get_or s.counts v 0 ≤ 16
  pub few_actions : length s.actions ≤ 256
  pub action : (i : ℕ) → i < length s.actions → LawfulAction s.counts (action_at s.actions i)
  pub post_unique : PostUnique s.situation s.actions
  pub used : (v : ℕ) → v < length s.counts → uses s.actions v ≡ true
  pub a_task_each : length s.tasks ≡ length s.counts
  pub has_start : (v : ℕ) → v < length s.tasks → Has s.counts v (task_at s.tasks v).start
  pub has_goal : (v : ℕ) → v < length s.tasks → Has s.counts v (task_at s.tasks v).goal
  pub seed_low : 1 ≤ s.seed
  pub seed_high : s.seed ≤ 2147483646

-- a crew has a task for each variable, from one of its values to one, and a seed
pub record LawfulCrew (counts : List ℕ) (k : Crew) : Type 0 where
  pub a_task_each : length k.tasks ≡ length counts
  pub has_start : (v : ℕ) → v < length k.tasks → Has counts v (task_at k.tasks v).start
  pub has_goal : (v : ℕ) → v < length k.tasks → Has counts v (task_at k.tasks v).goal
  pub seed_low : 1 ≤ k.seed
  pub seed_high : k.seed ≤ 2147483646

-- the study of each crew is lawful, and there are one to eight
pub record LawfulRoster (r : Roster) : Type 0 where
  pub situation : r.situation ≤ 7
  pub some_variable : 1 ≤ length r.counts
  pub few_variables : length r.counts ≤ 32
  pub some_values : (v : ℕ) → v < length r.counts → 2 ≤ get_or r.counts v 0
  pub few_values : (v : ℕ) → v < length r.counts → get_or r.counts v 0 ≤ 16
  pub few_actions : length r.actions ≤ 256
  pub action : (i : ℕ) → i < length r.actions → LawfulAction r.counts (action_at r.actions i)
  pub post_unique : PostUnique r.situation r.actions
  pub used : (v : ℕ) → v < length r.counts → uses r.actions v ≡ true
  pub some_crew : 1 ≤ length r.crews
  pub few_crews : length r.crews ≤ 8
  pub crew : (c : ℕ) → c < length r.crews → LawfulCrew r.counts (crew_at r.crews c)
