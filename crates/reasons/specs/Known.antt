-- What is known of a plan and of one of its steps where its reasons are told.
-- Assumes nothing.
use Rattle.std.specs.Prelude.{ℕ, ◌<◌, ◌≡◌, ◌≢◌, true, List, length, get_or}
use Rattle.study.specs.Study.{Study}
use Rattle.lawful.specs.Lawful.{Lawful}
use Rattle.plans.specs.Plans.{Usable}
use Rattle.tables.specs.Tables.{HoldsConditions}
use Rattle.tables.specs.declared.Act.{Act}
use Rattle.walks.specs.Walks.{var_of, pre_of, post_of, conditions_of, start_of, Wants}
use Rattle.tracing.specs.Facts.{NamesUsable, Tells}
use Rattle.explained.specs.Reasons.{step_of, stands}
use Rattle.explained.specs.Wanters.{Sets, Noted}

-- the table has the step of each action of the plan
abbrev pub Placed : List ℕ → List ℕ → Type 0
Placed plan places = (i : ℕ) → stands plan i ≡ true → get_or places i 0 ≡ step_of plan i

-- an action of the plan sets the value
pub record SetIn (t : Study) (plan : List ℕ) (v q : ℕ) : Type 0 where
  pub by : ℕ
  pub usable : Usable t by
  pub var : var_of t by ≡ v
  pub post : post_of t by ≡ q
  pub in_plan : stands plan by ≡ true

-- the tables, with the steps of a plan and the sets of those that want a value
pub record Reasonable (firsts setters : List ℕ) (sets : Sets) (places : List ℕ) (t : Study) (plan : List ℕ) : Type 0 where
  pub lawful : Lawful t
  pub starts : Tells start_of (length t.tasks) firsts t
  pub names : NamesUsable (length t.actions) setters t
  pub noted : Noted t (length t.actions) (λ i. stands plan i) sets
  pub placed : Placed plan places

-- action j, opened, whose values other than starts are set by actions of the plan
pub record Step (file : List ℕ) (act : Act) (t : Study) (plan : List ℕ) (j : ℕ) : Type 0 where
  pub there : j < length t.actions
  pub is_var : act.var ≡ var_of t j
  pub is_pre : act.pre ≡ pre_of t j
  pub conditions : HoldsConditions file act.place act.many (conditions_of t j)
  pub set_left : pre_of t j ≢ start_of t (var_of t j) → SetIn t plan (var_of t j) (pre_of t j)
  pub set_wanted : (v q : ℕ) → Wants (conditions_of t j) v q → q ≢ start_of t v → SetIn t plan v q
