-- What is told of refusal 12: from the lowest walk action on or after a ring, always to the lowest that is so too and comes directly before, until one repeats; that circle.
-- Assumes nothing.
use Rattle.std.specs.Prelude.{ℕ, ◌<◌, ◌≡◌, ◌&&◌, List, [], ◌∷◌, ◌++◌, eqb}
use Rattle.plain.specs.Choose.{pick}
use Rattle.study.specs.Study.{Study}
use Rattle.orders.specs.Orders.{Distinct, Behind}
use Rattle.walks.specs.Walks.{var_of, pre_of, post_of, conditions_of, OnAWalk, ComesBefore}
use Rattle.wanting.specs.Wanting.{wants}
use Rattle.explained.specs.Facts.{Fact, Rule, next, sets, leaves, ring}

-- on a ring of walk actions, or after one
abbrev pub Stuck : Study → ℕ → Type 0
Stuck t i = Behind (OnAWalk t) (ComesBefore t) i

-- i is the lowest such action that comes directly before j
pub record WaitsOn (t : Study) (j i : ℕ) : Type 0 where
  pub stuck : Stuck t i
  pub before : ComesBefore t i j
  pub lowest : (k : ℕ) → k < i → Stuck t k → ComesBefore t k j → ⊥

-- each waits on the next, and the last on `end`
abbrev pub WaitAlong : Study → List ℕ → ℕ → Type 0
WaitAlong t [] end = Unit {0}
WaitAlong t (j ∷ []) end = WaitsOn t j end
WaitAlong t (j ∷ i ∷ rest) end = WaitsOn t j i × WaitAlong t (i ∷ rest) end

-- i comes before j, by the first rule that applies, and over which value
abbrev pub order_fact : Study → ℕ → ℕ → Fact
order_fact t i j =
    pick (eqb (var_of t i) (var_of t j) && eqb (post_of t i) (pre_of t j)) (ring next i j (var_of t j) (pre_of t j))
    (pick (wants (conditions_of t j) (var_of t i) (post_of t i)) (ring sets i j (var_of t i) (post_of t i)) (ring leaves i j (var_of t j) (pre_of t j)))

-- the orders of a circle, each action after the next, and the last after `end`
abbrev pub order_facts : Study → List ℕ → ℕ → List Fact
order_facts t [] end = []
order_facts t (j ∷ []) end = order_fact t end j ∷ []
order_facts t (j ∷ i ∷ rest) end = order_fact t i j ∷ order_facts t (i ∷ rest) end

-- the path from the lowest, and the circle that it ends in, which begins with `again`
pub record Circled (t : Study) (facts : List Fact) : Type 0 where
  pub first : ℕ
  pub first_stuck : Stuck t first
  pub lowest : (k : ℕ) → k < first → Stuck t k → ⊥
  pub front : List ℕ
  pub again : ℕ
  pub others : List ℕ
  pub path_rest : List ℕ
  pub begins : front ++ (again ∷ others) ≡ first ∷ path_rest
  pub once : Distinct (front ++ (again ∷ others))
  pub along : WaitAlong t (front ++ (again ∷ others)) again
  pub told : facts ≡ order_facts t (again ∷ others) again
