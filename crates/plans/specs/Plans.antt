-- States, when an action may be done and what doing it gives, plans, and straight plans: source 004's definitions, and document 01's narrower one.
-- Assumes nothing.
use Rattle.std.specs.Prelude.{ℕ, ◌<◌, ◌≡◌, ◌≢◌, true, List, [], ◌∷◌, length, get_or, set}
use Rattle.study.specs.Study.{Condition, Action, Task, Study, in_force, action_at, task_at}

-- a state gives each variable one value
abbrev pub State : Type 0
State = List ℕ

abbrev pub value_of : State → ℕ → ℕ
value_of s v = get_or s v 0

-- every condition holds (004: the prevail-conditions)
abbrev pub Hold : State → List Condition → Type 0
Hold s [] = Unit {0}
Hold s (c ∷ rest) = (value_of s c.var ≡ c.value) × Hold s rest

-- an action may be done in a state if its variable has the value pre and every condition holds
pub record May (s : State) (a : Action) : Type 0 where
  pub pre : value_of s a.var ≡ a.pre
  pub conditions : Hold s a.conditions

-- doing it sets that variable to post and alters no other
abbrev pub after : State → Action → State
after s a = set s a.var a.post

-- the actions that a plan may use: those in force in the study's situation
pub record Usable (t : Study) (i : ℕ) : Type 0 where
  pub there : i < length t.actions
  pub in_force_lem : in_force t.situation (action_at t.actions i) ≡ true

abbrev pub starts_of : List Task → State
starts_of [] = []
starts_of (k ∷ rest) = k.start ∷ starts_of rest

abbrev pub start_state : Study → State
start_state t = starts_of t.tasks

-- the goal is met in every variable
abbrev pub Reached : Study → State → Type 0
Reached t s = (v : ℕ) → v < length t.tasks → value_of s v ≡ (task_at t.tasks v).goal

-- from a state, a list of action numbers may be done one after another, and ends in a state
abbrev pub Runs : Study → State → List ℕ → State → Type 0
Runs t s [] end = s ≡ end
Runs t s (i ∷ rest) end = Usable t i × May s (action_at t.actions i) × Runs t (after s (action_at t.actions i)) rest end

-- 004: a plan may be done from the start and ends in the goal
pub record Plan (t : Study) (list : List ℕ) : Type 0 where
  pub end : State
  pub runs : Runs t (start_state t) list end
  pub reached : Reached t end

-- in none of these states the variable has the value
abbrev pub NeverHeld : List State → ℕ → ℕ → Type 0
NeverHeld [] v q = Unit {0}
NeverHeld (s ∷ past) v q = (value_of s v ≢ q) × NeverHeld past v q

-- from a state with a past, no step of the list gives its variable a value that it has held before
abbrev pub NoneAgain : Study → List State → State → List ℕ → Type 0
NoneAgain t past s [] = Unit {0}
NoneAgain t past s (i ∷ rest) =
    NeverHeld (s ∷ past) (action_at t.actions i).var (action_at t.actions i).post
    × NoneAgain t (s ∷ past) (after s (action_at t.actions i)) rest

pub record StraightPlan (t : Study) (list : List ℕ) : Type 0 where
  pub plan : Plan t list
  pub none_again : NoneAgain t [] (start_state t) list
