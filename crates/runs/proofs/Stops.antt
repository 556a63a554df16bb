-- Where a run stops: each refusal (14, 20, 15, 16, 17) by its rule, and how far the list was done before it.
-- Assumes nothing.
use mathlib.Core.Path.{◌≡◌}
use mathlib.Core.Logic.{◌≢◌}
use mathlib.Core.Bool.{false}
use mathlib.Core.List.{List, [], ◌∷◌, ◌++◌}
use Prim.Native.Nat.{ℕ, ◌+◌, ◌≤◌, ◌<◌}
use lib.ListN.{length}
use Rattle.study.specs.Study.{Condition, Action, Study, in_force, action_at, task_at, condition_at}
use Rattle.plans.specs.Plans.{State, value_of, May, Usable, start_state, Runs, NeverHeld, NoneAgain}
use Rattle.plans.proofs.States.{HoldsAt}
use Rattle.plans.proofs.Again.{past_of}
use Rattle.runs.proofs.First.{First}

-- v is the variable of a condition that fails, while all before it hold
pub record FirstFailing (s : State) (cs : List Condition) (v : ℕ) : Type 0 where
  pub at : ℕ
  pub first : First (HoldsAt s cs) (length cs) at
  pub variable : v ≡ (condition_at cs at).var

-- the action may not be done: its own variable if pre fails, else that of the first condition that fails
pub data Bars (s : State) (a : Action) : ℕ → Type 0 where
  pre_fails : value_of s a.var ≢ a.pre → Bars s a a.var
  condition_fails : {v : ℕ} → value_of s a.var ≡ a.pre → FirstFailing s a.conditions v → Bars s a v

-- variable v is at its goal
abbrev pub AtGoal : Study → State → ℕ → Type 0
AtGoal t s v = value_of s v ≡ (task_at t.tasks v).goal

-- in a state with a past, what is left of the list, from step k on, is refused at once: the answer's three numbers
pub data Refuses (t : Study) (past : List State) (s : State) (k : ℕ) : List ℕ → ℕ → ℕ → ℕ → Type 0 where
  no_action_lem : {i : ℕ} {rest : List ℕ} → length t.actions ≤ i → Refuses t past s k (i ∷ rest) 14 k 0
  out_of_force :
      {i : ℕ} {rest : List ℕ} → i < length t.actions → in_force t.situation (action_at t.actions i) ≡ false
      → Refuses t past s k (i ∷ rest) 20 k 0
  may_not : {i v : ℕ} {rest : List ℕ} → Usable t i → Bars s (action_at t.actions i) v → Refuses t past s k (i ∷ rest) 15 k v
  held_before :
      {i : ℕ} {rest : List ℕ} → Usable t i → May s (action_at t.actions i)
      → (NeverHeld (s ∷ past) (action_at t.actions i).var (action_at t.actions i).post → ⊥)
      → Refuses t past s k (i ∷ rest) 16 k (action_at t.actions i).var
  goal_missed : {v : ℕ} → First (AtGoal t s) (length t.tasks) v → Refuses t past s k [] 17 v 0

-- from a state with a past, numbering steps from k: the front of the list is done, and the rest is refused at once
pub record StopsAt (t : Study) (past : List State) (s : State) (k : ℕ) (list : List ℕ) (number first second : ℕ) : Type 0 where
  pub front : List ℕ
  pub rest : List ℕ
  pub parts : list ≡ front ++ rest
  pub state : State
  pub runs : Runs t s front state
  pub none_again : NoneAgain t past s front
  pub step : ℕ
  pub counted : step ≡ k + length front
  pub refuses : Refuses t (past_of t past s front) state step rest number first second

-- step k is the first that names an action out of force: it is there, and all before it may be done and takes no value again
pub record OutOfForceAt (t : Study) (list : List ℕ) (k : ℕ) : Type 0 where
  pub front : List ℕ
  pub action : ℕ
  pub rest : List ℕ
  pub parts : list ≡ front ++ (action ∷ rest)
  pub counted : k ≡ length front
  pub state : State
  pub runs : Runs t (start_state t) front state
  pub none_again : NoneAgain t [] (start_state t) front
  pub there : action < length t.actions
  pub out : in_force t.situation (action_at t.actions action) ≡ false
