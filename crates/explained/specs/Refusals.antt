-- What is told of refusals 10 and 11: the trace back from the goal, and the walk that a wanted value is off.
-- Assumes nothing.
use Rattle.std.specs.Prelude.{ℕ, ◌≡◌, List, [], ◌∷◌, map}
use Rattle.study.specs.Study.{Study}
use Rattle.plans.specs.Plans.{Usable}
use Rattle.orders.specs.Orders.{In}
use Rattle.walks.specs.Walks.{var_of, pre_of, post_of, start_of, goal_of, conditions_of, Walk, Wants}
use Rattle.walks.specs.Breaks.{Unset}
use Rattle.explained.specs.Facts.{Fact, goal, set, unset, round, wants, start, walk}

-- ---- 10: from a value back, where those values were passed

pub data Traced (t : Study) (v : ℕ) : ℕ → List ℕ → List Fact → Type 0 where
  -- a value that was passed: the trace has come round
  comes_back : {q : ℕ} {passed : List ℕ} → In q passed → Traced t v q passed (round v q ∷ [])
  -- a value that no action in force sets
  breaks_off : {q : ℕ} {passed : List ℕ} → (In q passed → ⊥) → Unset t v q → Traced t v q passed (unset v q ∷ [])
  -- the action in force that sets the value, and on from what it leaves
  goes_on :
      {q i : ℕ} {passed : List ℕ} {rest : List Fact}
      → (In q passed → ⊥) → Usable t i → var_of t i ≡ v → post_of t i ≡ q → Traced t v (pre_of t i) (q ∷ passed) rest
      → Traced t v q passed (set v q i (pre_of t i) ∷ rest)

pub record TracedFromGoal (t : Study) (v : ℕ) (facts : List Fact) : Type 0 where
  pub rest : List Fact
  pub traced : Traced t v (goal_of t v) [] rest
  pub told : facts ≡ goal v (goal_of t v) ∷ rest

-- ---- 11: the condition, and the walk of its variable from the start on

abbrev pub walk_fact : Study → ℕ → ℕ → Fact
walk_fact t u i = walk u i (pre_of t i) (post_of t i)

pub record WalkedPast (t : Study) (i u : ℕ) (facts : List Fact) : Type 0 where
  pub value : ℕ
  pub wants_it : Wants (conditions_of t i) u value
  pub list : List ℕ
  pub walks : Walk t u list
  pub told : facts ≡ wants i u value ∷ start u (start_of t u) ∷ map (walk_fact t u) list
