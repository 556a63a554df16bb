-- What each fact says of a study, and what a reason says of a step.
-- Assumes nothing.
use Rattle.std.specs.Prelude.{ℕ, ◌<◌, ◌≡◌, ◌⊎◌, List, [], ◌∷◌, length, get_or}
use Rattle.study.specs.Study.{Study}
use Rattle.plans.specs.Plans.{Usable}
use Rattle.walks.specs.Walks.{var_of, pre_of, post_of, start_of, goal_of, conditions_of, OnAWalk, ValueOnWalk, Wants}
use Rattle.walks.specs.Breaks.{Unset, ComesRound}
use Rattle.explained.specs.Facts.{Rule, next, sets, leaves, Fact, goal, set, unset, round, wants, start, walk, ring, after}
use Rattle.explained.specs.Rings.{Stuck}

-- i comes before j by the rule, over v = q
abbrev pub ByRule : Study → Rule → ℕ → ℕ → ℕ → ℕ → Type 0
ByRule t next i j v q = (var_of t i ≡ v) × ((var_of t j ≡ v) × ((post_of t i ≡ q) × (pre_of t j ≡ q)))
ByRule t sets i j v q = (var_of t i ≡ v) × ((post_of t i ≡ q) × Wants (conditions_of t j) v q)
ByRule t leaves i j v q = (var_of t j ≡ v) × ((pre_of t j ≡ q) × Wants (conditions_of t i) v q)

-- no rule before this one puts i before j
abbrev pub NoneEarlier : Study → Rule → ℕ → ℕ → Type 0
NoneEarlier t next i j = Unit {0}
NoneEarlier t sets i j = (v q : ℕ) → ByRule t next i j v q → ⊥
NoneEarlier t leaves i j = (v q : ℕ) → (ByRule t next i j v q → ⊥) × (ByRule t sets i j v q → ⊥)

-- an order of a ring, by its first rule
pub record RingOrder (t : Study) (r : Rule) (i j v q : ℕ) : Type 0 where
  pub by_rule : ByRule t r i j v q
  pub first_rule : NoneEarlier t r i j
  pub one_stuck : Stuck t i
  pub other_stuck : Stuck t j

-- step k, before step m of the plan, is action i, which comes before that step's action by the rule
pub record Reason (t : Study) (plan : List ℕ) (m : ℕ) (r : Rule) (k i v q : ℕ) : Type 0 where
  pub earlier : k < m
  pub is_step : get_or plan k 0 ≡ i
  pub on_walk_lem : OnAWalk t i
  pub by_rule : ByRule t r i (get_or plan m 0) v q

-- what a fact says of a study
abbrev pub Says : Study → Fact → Type 0
Says t (goal v q) = goal_of t v ≡ q
Says t (set v q i p) = Usable t i × ((var_of t i ≡ v) × ((post_of t i ≡ q) × (pre_of t i ≡ p)))
Says t (unset v q) = Unset t v q
Says t (round v q) = (c : ComesRound t v) × (c.value ≡ q)
Says t (wants i v q) = OnAWalk t i × (Wants (conditions_of t i) v q × (ValueOnWalk t v q → ⊥))
Says t (start v q) = start_of t v ≡ q
Says t (walk v i p q) = OnAWalk t i × ((var_of t i ≡ v) × ((pre_of t i ≡ p) × (post_of t i ≡ q)))
Says t (ring r i j v q) = RingOrder t r i j v q
Says t (after r k i v q) = OnAWalk t i

abbrev pub Each : {A : Type 0} → (A → Type 0) → List A → Type 0
Each P [] = Unit {0}
Each P (x ∷ rest) = P x × Each P rest

-- the fact is among them
abbrev pub Stated : Fact → List Fact → Type 0
Stated f [] = ⊥
Stated f (g ∷ rest) = (f ≡ g) ⊎ Stated f rest
