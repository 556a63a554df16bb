-- What can be wrong with a chart, in document 02's words and in its order: 14, then 25 to 28.
-- Assumes nothing.
use Rattle.std.specs.Prelude.{ℕ, ◌<◌, ◌≡◌, ◌⊎◌, List, length, get_or}
use Rattle.ranks.specs.Ranks.{count}
use Rattle.orders.specs.Orders.{In, Chain, OnRing}
use Rattle.study.specs.Study.{Study}
use Rattle.plans.specs.Plans.{Usable}
use Rattle.walks.specs.Walks.{OnAWalk, ComesBefore}
use Rattle.charts.specs.Charts.{Pair, pair, Paired}

-- 14: entry k of the list is the first that is not there or out of force
abbrev pub AllUsable : Study → List ℕ → Type 0
AllUsable t list = (k : ℕ) → k < length list → Usable t (get_or list k 0)

pub record FirstUnusable (t : Study) (list : List ℕ) (k : ℕ) : Type 0 where
  pub there : k < length list
  pub unusable : Usable t (get_or list k 0) → ⊥
  pub before : (j : ℕ) → j < k → Usable t (get_or list j 0)

-- 25: an action repeats in the list; is on a walk and missing in it; or is in it and on no walk
pub data Amiss (t : Study) (list : List ℕ) (i : ℕ) : Type 0 where
  repeats : 1 < count i list → Amiss t list i
  missing : OnAWalk t i → (In i list → ⊥) → Amiss t list i
  on_no_walk : In i list → (OnAWalk t i → ⊥) → Amiss t list i

abbrev pub NoneAmiss : Study → List ℕ → Type 0
NoneAmiss t list = (i : ℕ) → Amiss t list i → ⊥

pub record LowestAmiss (t : Study) (list : List ℕ) (i : ℕ) : Type 0 where
  pub amiss : Amiss t list i
  pub lower : (j : ℕ) → j < i → Amiss t list j → ⊥

-- 26: a pair names an action that is not listed, or an action and itself
pub data Astray (list : List ℕ) (p : Pair) : Type 0 where
  this_unlisted : (In p.this list → ⊥) → Astray list p
  that_unlisted : (In p.that list → ⊥) → Astray list p
  itself : p.this ≡ p.that → Astray list p

abbrev pub pair_at : List Pair → ℕ → Pair
pair_at pairs k = get_or pairs k (pair 0 0)

abbrev pub NoneAstray : List ℕ → List Pair → Type 0
NoneAstray list pairs = (k : ℕ) → k < length pairs → Astray list (pair_at pairs k) → ⊥

pub record FirstAstray (list : List ℕ) (pairs : List Pair) (k : ℕ) : Type 0 where
  pub there : k < length pairs
  pub astray : Astray list (pair_at pairs k)
  pub before : (j : ℕ) → j < k → Astray list (pair_at pairs j) → ⊥

-- 27: the pairs form a circle; a chain of pairs leads from one action to another
abbrev pub Anyone : ℕ → Type 0
Anyone x = Unit {0}

abbrev pub Chained : List Pair → ℕ → ℕ → Type 0
Chained pairs x y = Chain Anyone (Paired pairs) x y

abbrev pub InCircle : List Pair → ℕ → Type 0
InCircle pairs x = OnRing Anyone (Paired pairs) x

abbrev pub NoCircle : List Pair → Type 0
NoCircle pairs = (x : ℕ) → InCircle pairs x → ⊥

-- 28: a direct order of (a) to (c), and none that no chain of pairs gives
pub record Direct (t : Study) (i j : ℕ) : Type 0 where
  pub one : OnAWalk t i
  pub other : OnAWalk t j
  pub comes_before_lem : ComesBefore t i j

abbrev pub NoneLacking : Study → List Pair → Type 0
NoneLacking t pairs = (i j : ℕ) → Direct t i j → Chained pairs i j

-- one pair of actions is lower than another, by the first and then the second
abbrev pub LowerTwo : ℕ → ℕ → ℕ → ℕ → Type 0
LowerTwo k l i j = (k < i) ⊎ ((k ≡ i) × (l < j))

pub record LowestLacking (t : Study) (pairs : List Pair) (i j : ℕ) : Type 0 where
  pub direct : Direct t i j
  pub unchained : Chained pairs i j → ⊥
  pub lower : (k l : ℕ) → LowerTwo k l i j → Direct t k l → Chained pairs k l
