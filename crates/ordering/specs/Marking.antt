-- One walk action marked: the ranks that come before it and after it, as bits of words.
-- Assumes nothing.
use Rattle.std.specs.Prelude.{ℕ, ◌+◌, ◌*◌, ◌<◌, ◌≡◌, ◌⊎◌, true, List, length, get_or, Result, Ok, Err}
use Rattle.bits.specs.Bits.{bit}
use Rattle.study.specs.Study.{Study, condition_at}
use Rattle.tables.specs.declared.Act.{Act}
use Rattle.walks.specs.Walks.{OnAWalk, ComesBefore, Wants, var_of, pre_of, post_of, conditions_of, start_of}
use Rattle.tracing.specs.Facts.{NamesUsable, Tells}
use Rattle.tracing.specs.Steps.{Rowed}
use Rattle.wanting.specs.Wanting.{StandAt, HaveSteps, FirstOff}
use Rattle.marking.specs.Marking.{Marked, Grows}

-- ---- the conditions of one action

-- the conditions of action i stand in the file, rank is its rank, and the tables tell the walks
pub record Surveyed (file : List ℕ) (place many rank : ℕ) (ranks firsts setters steps : List ℕ) (t : Study) (i : ℕ) : Type 0 where
  pub stand : StandAt file place many t i
  pub is_rank : rank ≡ get_or ranks i 0
  pub actions : length ranks ≡ length t.actions
  pub names : NamesUsable (length ranks) setters t
  pub starts : Tells start_of (length t.tasks) firsts t
  pub rowed : Rowed t (length t.tasks) steps

-- the word has the ranks of the walk actions that set v to q
abbrev pub SettersIn : Study → List ℕ → ℕ → ℕ → ℕ → Type 0
SettersIn t ranks word v q = (x : ℕ) → OnAWalk t x → var_of t x ≡ v → post_of t x ≡ q → bit word (get_or ranks x 0) ≡ true

-- the rank is before those of the walk actions that leave v at q
abbrev pub LeaversAfter : Study → List ℕ → ℕ → List ℕ → ℕ → ℕ → Type 0
LeaversAfter t ranks rank table v q = (l : ℕ) → OnAWalk t l → var_of t l ≡ v → pre_of t l ≡ q → Marked table (get_or ranks l 0) rank

-- the action of rank b comes before that of rank a
pub record Justified (t : Study) (ranks : List ℕ) (a b : ℕ) : Type 0 where
  pub one : ℕ
  pub other : ℕ
  pub one_there : one < length t.actions
  pub other_there : other < length t.actions
  pub one_rank : get_or ranks one 0 ≡ b
  pub other_rank : get_or ranks other 0 ≡ a
  pub before : ComesBefore t one other

-- the first n conditions of action i: their setters are put into the word, and the rank before their leavers
pub record WantedMarked (t : Study) (i n rank : ℕ) (ranks steps before before' : List ℕ) (first word : ℕ) : Type 0 where
  pub have_steps : HaveSteps (conditions_of t i) steps n
  pub setters :
      (k : ℕ) → k < n → SettersIn t ranks word (condition_at (conditions_of t i) k).var (condition_at (conditions_of t i) k).value
  pub leavers :
      (k : ℕ) → k < n → LeaversAfter t ranks rank before' (condition_at (conditions_of t i) k).var (condition_at (conditions_of t i) k).value
  pub grows : Grows before before'
  pub keeps : (b : ℕ) → bit first b ≡ true → bit word b ≡ true
  pub only_setters : (b : ℕ) → bit word b ≡ true → (bit first b ≡ true) ⊎ Justified t ranks rank b
  pub only_leavers : (a b : ℕ) → Marked before' a b → Marked before a b ⊎ Justified t ranks a b

abbrev pub OrdersWanted : Study → ℕ → ℕ → List ℕ → List ℕ → List ℕ → List ℕ → ℕ → Result ℕ ℕ → Type 0
OrdersWanted t i rank ranks steps before before' first (Ok word) =
    WantedMarked t i (length (conditions_of t i)) rank ranks steps before before' first word
OrdersWanted t i rank ranks steps before before' first (Err u) = FirstOff (conditions_of t i) steps u

-- ---- one action

-- action i is on a walk, act its row, and j the index of the value that it leaves
pub record Turn (file : List ℕ) (act : Act) (j rank : ℕ) (ranks firsts setters steps : List ℕ) (t : Study) (i : ℕ) : Type 0 where
  pub surveyed : Surveyed file act.place act.many rank ranks firsts setters steps t i
  pub on_walk_lem : OnAWalk t i
  pub is_var : act.var ≡ var_of t i
  pub is_pre : act.pre ≡ pre_of t i
  pub is_index : j ≡ 16 * var_of t i + pre_of t i

-- x comes before y by rule (a) or (b): it sets what y leaves, or what y wants
abbrev pub SetsFor : Study → ℕ → ℕ → Type 0
SetsFor t x y = ((var_of t x ≡ var_of t y) × (post_of t x ≡ pre_of t y)) ⊎ Wants (conditions_of t y) (var_of t x) (post_of t x)

-- .. or by rule (c): it wants what y leaves
abbrev pub WantsLeft : Study → ℕ → ℕ → Type 0
WantsLeft t x y = Wants (conditions_of t x) (var_of t y) (pre_of t y)

pub record ActionMarked (t : Study) (i : ℕ) (ranks steps before before' : List ℕ) : Type 0 where
  pub have_steps : HaveSteps (conditions_of t i) steps (length (conditions_of t i))
  pub grows : Grows before before'
  pub setters : (x : ℕ) → OnAWalk t x → SetsFor t x i → Marked before' (get_or ranks i 0) (get_or ranks x 0)
  pub leavers : (x : ℕ) → OnAWalk t x → WantsLeft t i x → Marked before' (get_or ranks x 0) (get_or ranks i 0)
  pub only : (a b : ℕ) → Marked before' a b → Marked before a b ⊎ Justified t ranks a b

abbrev pub OrdersOne : Study → ℕ → List ℕ → List ℕ → List ℕ → List ℕ → Result (Unit {0}) ℕ → Type 0
OrdersOne t i ranks steps before before' (Ok tt) = ActionMarked t i ranks steps before before'
OrdersOne t i ranks steps before before' (Err u) = FirstOff (conditions_of t i) steps u
