-- Document 01's walks, values on the walk, and 'comes before' between the actions of walks.
-- Assumes nothing.
use Rattle.std.specs.Prelude.{ℕ, ◌<◌, ◌≡◌, ◌⊎◌, ◌≢◌, List, [], ◌∷◌, length}
use Rattle.study.specs.Study.{Condition, Study, action_at, task_at}
use Rattle.plans.specs.Plans.{Usable}
use Rattle.orders.specs.Orders.{In}

abbrev pub var_of : Study → ℕ → ℕ
var_of t i = (action_at t.actions i).var

abbrev pub pre_of : Study → ℕ → ℕ
pre_of t i = (action_at t.actions i).pre

abbrev pub post_of : Study → ℕ → ℕ
post_of t i = (action_at t.actions i).post

abbrev pub conditions_of : Study → ℕ → List Condition
conditions_of t i = (action_at t.actions i).conditions

abbrev pub start_of : Study → ℕ → ℕ
start_of t v = (task_at t.tasks v).start

abbrev pub goal_of : Study → ℕ → ℕ
goal_of t v = (task_at t.tasks v).goal

-- the actions lead a variable from one value to another
abbrev pub Leads : Study → ℕ → ℕ → List ℕ → ℕ → Type 0
Leads t v p [] q = p ≡ q
Leads t v p (i ∷ rest) q = Usable t i × ((var_of t i ≡ v) × ((pre_of t i ≡ p) × Leads t v (post_of t i) rest q))

-- a way of a variable leads from its start value to a value; traced back it ends where the start is met, so no action of it sets the start value
pub record Way (t : Study) (v q : ℕ) (list : List ℕ) : Type 0 where
  pub leads : Leads t v (start_of t v) list q
  pub ends_at_start : (i : ℕ) → In i list → post_of t i ≢ start_of t v

-- the walk of a variable is the way to its goal value
abbrev pub Walk : Study → ℕ → List ℕ → Type 0
Walk t v list = Way t v (goal_of t v) list

-- an action on a walk, which is that of its own variable
pub record OnAWalk (t : Study) (i : ℕ) : Type 0 where
  pub there : var_of t i < length t.tasks
  pub list : List ℕ
  pub walk : Walk t (var_of t i) list
  pub on : In i list

-- a value on the walk of a variable: the start value, or the post of an action of the walk
pub record ValueOnWalk (t : Study) (v q : ℕ) : Type 0 where
  pub list : List ℕ
  pub walk : Walk t v list
  pub value : (q ≡ start_of t v) ⊎ ((i : ℕ) × (In i list × (post_of t i ≡ q)))

-- among the conditions is v = q
abbrev pub Wants : List Condition → ℕ → ℕ → Type 0
Wants [] v q = ⊥
Wants (c ∷ rest) v q = ((c.var ≡ v) × (c.value ≡ q)) ⊎ Wants rest v q

-- comes before, between actions of walks: (a) an action before the next of its walk; (b) the action that sets a wanted value before the action that wants it; (c) that one before the action that leaves the value
pub data ComesBefore (t : Study) (i j : ℕ) : Type 0 where
  next : var_of t i ≡ var_of t j → post_of t i ≡ pre_of t j → ComesBefore t i j
  sets : Wants (conditions_of t j) (var_of t i) (post_of t i) → ComesBefore t i j
  leaves : Wants (conditions_of t i) (var_of t j) (pre_of t j) → ComesBefore t i j

-- every variable has a walk
abbrev pub Walks : Study → Type 0
Walks t = (v : ℕ) → v < length t.tasks → (list : List ℕ) × Walk t v list

-- every condition of an action on a walk has its value on that variable's walk
abbrev pub Met : Study → Type 0
Met t = (i : ℕ) → OnAWalk t i → (v q : ℕ) → Wants (conditions_of t i) v q → ValueOnWalk t v q
