-- Charts of document 02: actions, and pairs 'this before that'; the lists that keep one, and when it is accepted.
-- Assumes nothing.
use Rattle.std.specs.Prelude.{ℕ, ◌≡◌, ◌⊎◌, List, [], ◌∷◌}
use Rattle.ranks.specs.Ranks.{count}
use Rattle.orders.specs.Orders.{StandsBefore}
use Rattle.study.specs.Study.{Study}
use Rattle.plans.specs.Plans.{StraightPlan}

-- this before that
pub record Pair : Type 0 where
  pub this : ℕ
  pub that : ℕ

pub record Chart : Type 0 where
  pub actions : List ℕ
  pub pairs : List Pair

-- among the pairs is 'x before y'
abbrev pub Paired : List Pair → ℕ → ℕ → Type 0
Paired [] x y = ⊥
Paired (p ∷ rest) x y = ((p.this ≡ x) × (p.that ≡ y)) ⊎ Paired rest x y

-- a list keeps a chart if it is a rearrangement of the listed actions, and has the first of each pair before the second
pub record Keeps (c : Chart) (list : List ℕ) : Type 0 where
  pub rearranged : (x : ℕ) → count x list ≡ count x c.actions
  pub in_order : (x y : ℕ) → Paired c.pairs x y → StandsBefore x y list

-- some list keeps the chart, and every list that keeps it is a straight plan
pub record Accepted (t : Study) (c : Chart) : Type 0 where
  pub order : List ℕ
  pub keeps : Keeps c order
  pub straight : (list : List ℕ) → Keeps c list → StraightPlan t list

-- ---- the chart that lent bytes stand for

abbrev pub pair : ℕ → ℕ → Pair
pair x y = record { this = x; that = y }

-- two bytes a pair; a lone last byte pairs its action with itself
unfoldable pub pairs_of : List ℕ → List Pair
pairs_of [] = []
pairs_of (x ∷ []) = pair x x ∷ []
pairs_of (x ∷ y ∷ rest) = pair x y ∷ pairs_of rest

abbrev pub chart_of : List ℕ → List ℕ → Chart
chart_of actions pairs = record { actions = actions; pairs = pairs_of pairs }
