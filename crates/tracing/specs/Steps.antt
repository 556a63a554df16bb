-- The table of steps: by variable and value, at 16 * v + q, 2 more than the walk action that leaves the value, 1 at the walk's end, 0 off the walk.
-- Assumes nothing.
use Rattle.std.specs.Prelude.{ℕ, ◌+◌, ◌-◌, ◌*◌, ◌<◌, ◌≡◌, ◌≢◌, List, eqb, ltb, length, get_or, Option, Some, None, Result, Ok, Err}
use Rattle.plain.specs.Choose.{pick}
use Rattle.study.specs.Study.{Study}
use Rattle.plans.specs.Plans.{Usable}
use Rattle.orders.specs.Orders.{In, Distinct}
use Rattle.walks.specs.Walks.{Way, Walk, OnAWalk, var_of, pre_of, post_of, start_of, goal_of}
use Rattle.walks.specs.Breaks.{Trail, Unset, came_round}
use Rattle.planning.specs.Planning.{LowestWithout}
use Rattle.tracing.specs.declared.Break.{Break}
use Rattle.tracing.specs.declared.Break.TheVariants.{At, Round}
use Rattle.tracing.specs.declared.NoWalk.{NoWalk}

-- the usable action that sets v to q, or that none does
abbrev pub SetterIs : Study → ℕ → ℕ → Option ℕ → Type 0
SetterIs t v q (Some i) = Usable t i × (var_of t i ≡ v) × (post_of t i ≡ q)
SetterIs t v q None = Unset t v q

-- row v of the table, for a list that leads from the start to q
pub record RowTo (t : Study) (v : ℕ) (list : List ℕ) (q : ℕ) (steps : List ℕ) : Type 0 where
  pub leaves : (k : ℕ) → k < length list → get_or steps (16 * v + pre_of t (get_or list k 0)) 0 ≡ get_or list k 0 + 2
  pub ends : get_or steps (16 * v + q) 0 ≡ 1
  pub off : (x : ℕ) → x < 16 → x ≢ q → ((k : ℕ) → k < length list → pre_of t (get_or list k 0) ≢ x) → get_or steps (16 * v + x) 0 ≡ 0

-- row v is empty
abbrev pub EmptyRow : ℕ → List ℕ → Type 0
EmptyRow v steps = (x : ℕ) → x < 16 → get_or steps (16 * v + x) 0 ≡ 0

-- a list is entered in row v: at the value that each action leaves, 2 more than the action; every other entry stays
pub record Enters (t : Study) (v : ℕ) (list steps steps' : List ℕ) : Type 0 where
  pub leaves : (k : ℕ) → k < length list → get_or steps' (16 * v + pre_of t (get_or list k 0)) 0 ≡ get_or list k 0 + 2
  pub stays : (j : ℕ) → ((k : ℕ) → k < length list → 16 * v + pre_of t (get_or list k 0) ≢ j) → get_or steps' j 0 ≡ get_or steps j 0

-- the way to q is entered, and has r actions with those passed before
abbrev pub WayEntered : Study → ℕ → ℕ → ℕ → List ℕ → List ℕ → ℕ → Type 0
WayEntered t v q passed steps steps' r =
    (list : List ℕ) × (Way t v q list × ((length list + passed ≡ r) × Enters t v list steps steps'))

-- the trace came to a value other than the start that no action in force sets
abbrev pub BrokenOff : Study → ℕ → ℕ → ℕ → Type 0
BrokenOff t v q p = (passed : List ℕ) × (Trail t v p passed q × ((p ≢ start_of t v) × Unset t v p))

-- the trace passed so many actions, and none sets the start
abbrev pub GoneOn : Study → ℕ → ℕ → ℕ → Type 0
GoneOn t v q left = (p : ℕ) × ((passed : List ℕ) × (Trail t v p passed q × (length passed ≡ left)))

-- what the number of a trace says: how many actions the walk has; 32 more than a value; 255
abbrev pub told : ℕ → Result ℕ Break
told r = pick (ltb r 32) (Ok r) (pick (eqb r 255) (Err Round) (Err (At (r - 32))))

-- where a trace breaks off, in a number: the value that it came to, or 255 where it comes round
abbrev pub value_of : Break → ℕ
value_of (At q) = q
value_of Round = came_round

-- it entered the way, or broke off, or passed as many as it may
abbrev pub ComesTo : Study → ℕ → ℕ → ℕ → ℕ → List ℕ → List ℕ → Result ℕ Break → Type 0
ComesTo t v q left passed steps steps' (Ok r) = WayEntered t v q passed steps steps' r
ComesTo t v q left passed steps steps' (Err (At p)) = BrokenOff t v q p
ComesTo t v q left passed steps steps' (Err Round) = GoneOn t v q left

-- a trace from q that may pass `left` more values
pub record Traces (t : Study) (v q left passed : ℕ) (steps steps' : List ℕ) (r : Result ℕ Break) : Type 0 where
  pub comes : ComesTo t v q left passed steps steps' r

-- the rows of the first m variables hold their walks
abbrev pub Rowed : Study → ℕ → List ℕ → Type 0
Rowed t m steps = (v : ℕ) → v < m → (list : List ℕ) × (Walk t v list × RowTo t v list (goal_of t v) steps)

-- the actions on walks, each once
pub record Members (t : Study) (list : List ℕ) : Type 0 where
  pub once : Distinct list
  pub all : (x : ℕ) → OnAWalk t x → In x list
  pub only : (x : ℕ) → In x list → OnAWalk t x

abbrev pub WalksAll : Study → ℕ → List ℕ → Result ℕ NoWalk → Type 0
WalksAll t n steps (Ok total) = Rowed t n steps × ((list : List ℕ) × (Members t list × (length list ≡ total)))
WalksAll t n steps (Err w) = LowestWithout t w.var (value_of w.breaks)
