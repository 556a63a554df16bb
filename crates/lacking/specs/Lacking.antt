-- The direct orders that loaded tables tell, as numbers of two actions, and the lowest that is not in rows of bits.
-- Assumes nothing.
use Rattle.std.specs.Prelude.{ℕ, ◌+◌, ◌*◌, ◌≤◌, ◌<◌, ◌≡◌, ◌⊎◌, ◌≢◌, Option, Some, None, List, get_or}
use Rattle.study.specs.Study.{Study}
use Rattle.linking.specs.Linking.{Rows, Linked}
use Rattle.charts.specs.Faults.{Direct, LowerTwo}

-- all that are such are linked; or the lowest two that are not
pub data LacksOf (such linked : ℕ → ℕ → Type 0) : Option (ℕ × ℕ) → Type 0 where
  nothing : ((i j : ℕ) → such i j → linked i j) → LacksOf such linked None
  two :
      {i j : ℕ} → such i j → (linked i j → ⊥) → ((k l : ℕ) → LowerTwo k l i j → such k l → linked k l)
      → LacksOf such linked (Some (i, j))

-- 28: every direct order is in the rows; or the lowest that is not
abbrev pub Lacks : Study → Rows → Option (ℕ × ℕ) → Type 0
Lacks t rows = LacksOf (Direct t) (Linked rows)

-- ---- two actions as one number

abbrev pub as_one : ℕ → ℕ → ℕ
as_one x y = 256 * x + y

-- more than any two
abbrev pub no_two : ℕ
no_two = 65536

abbrev pub as_number : Option (ℕ × ℕ) → ℕ
as_number None = no_two
as_number (Some (x, y)) = as_one x y

-- the least of those that are such and are not in the rows, if it is below `best`
pub record Weighs (rows : Rows) (such : ℕ → ℕ → Type 0) (best r : Option (ℕ × ℕ)) : Type 0 where
  pub lower : as_number r ≤ as_number best
  pub found : (r ≡ best) ⊎ ((x : ℕ) × (y : ℕ) × such x y × (r ≡ Some (x, y)) × (Linked rows x y → ⊥))
  pub rest : (x y : ℕ) → such x y → Linked rows x y ⊎ (as_number r ≤ as_one x y)

-- ---- what the tables tell

-- those two alone
abbrev pub Just : (x y : ℕ) → ℕ → ℕ → Type 0
Just x y a b = (a ≡ x) × (b ≡ y)

-- (a), (b): the action that sets q before i, unless q is the start
abbrev pub SetBefore : (q start setter i : ℕ) → ℕ → ℕ → Type 0
SetBefore q start setter i x y = (q ≢ start) × Just setter i x y

-- (c): i before the action that the step names
abbrev pub LeftAfter : (i step : ℕ) → ℕ → ℕ → Type 0
LeftAfter i step x y = (x ≡ i) × (step ≡ y + 2)

-- a condition v = q of i
abbrev pub OfCondition : (starts setters steps : List ℕ) → (i v q : ℕ) → ℕ → ℕ → Type 0
OfCondition starts setters steps i v q x y =
    SetBefore q (get_or starts v 0) (get_or setters (16 * v + q) 0) i x y ⊎ LeftAfter i (get_or steps (16 * v + q) 0) x y

-- its first n conditions, from a place in the file on
abbrev pub OfConditions : (file starts setters steps : List ℕ) → (place n i : ℕ) → ℕ → ℕ → Type 0
OfConditions file starts setters steps place n i x y =
    (k : ℕ) × (k < n) × OfCondition starts setters steps i (get_or file (place + 3 * k + 1) 0) (get_or file (place + 3 * k + 2) 0) x y

-- action i, which leaves v at p
abbrev pub OfAction : (file starts setters steps : List ℕ) → (v p place many i : ℕ) → ℕ → ℕ → Type 0
OfAction file starts setters steps v p place many i x y =
    SetBefore p (get_or starts v 0) (get_or setters (16 * v + p) 0) i x y ⊎ OfConditions file starts setters steps place many i x y

-- the first n actions: those that their step names
abbrev pub OfActions : (file starts setters steps vars pres places manys : List ℕ) → (n : ℕ) → ℕ → ℕ → Type 0
OfActions file starts setters steps vars pres places manys n x y =
    (i : ℕ) × (i < n) × (get_or steps (16 * get_or vars i 0 + get_or pres i 0) 0 ≡ i + 2)
    × OfAction file starts setters steps (get_or vars i 0) (get_or pres i 0) (get_or places i 0) (get_or manys i 0) i x y
