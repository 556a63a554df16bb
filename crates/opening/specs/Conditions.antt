-- An action's conditions, where they stand in the file, and the table of wants when it is taken.
-- Assumes nothing.
use Rattle.std.specs.Prelude.{ℕ, zero, suc, ◌+◌, ◌-◌, ◌*◌, ◌≤◌, ◌<◌, ◌≡◌, List, length, get_or, set}

-- so many conditions stand from the place on, each on a variable that the tables have
pub record Readable (file : List ℕ) (place many : ℕ) : Type 0 where
  pub room : place + 3 * many ≤ length file
  pub var : (k : ℕ) → k < many → get_or file (place + 3 * k + 1) 0 < 32

-- condition k holds in the state
abbrev pub HoldsAt : List ℕ → ℕ → List ℕ → ℕ → Type 0
HoldsAt file place state k = get_or state (get_or file (place + 3 * k + 1) 0) 0 ≡ get_or file (place + 3 * k + 2) 0

-- the first k conditions hold
abbrev pub HoldUpTo : List ℕ → ℕ → List ℕ → ℕ → Type 0
HoldUpTo file place state k = (j : ℕ) → j < k → HoldsAt file place state j

-- r is the first condition, not before `from`, that does not hold, or how many there are
pub record FirstOpen (file : List ℕ) (place many : ℕ) (state : List ℕ) (from r : ℕ) : Type 0 where
  pub most : r ≤ many
  pub hold : HoldUpTo file place state from → HoldUpTo file place state r
  pub fails : r < many → HoldsAt file place state r → ⊥

-- ---- the wants of an action that is taken

-- the entry of the condition that stands at a place
abbrev pub entry_at : List ℕ → ℕ → ℕ
entry_at file at = 16 * get_or file (at + 1) 0 + get_or file (at + 2) 0

-- the table with the entry of the condition at a place lowered by one
abbrev pub lowered : List ℕ → ℕ → List ℕ → List ℕ
lowered file at table = set table (entry_at file at) (get_or table (entry_at file at) 0 - 1)

-- .. and the entries of so many conditions from there on
unfoldable pub lowered_all : List ℕ → ℕ → ℕ → List ℕ → List ℕ
lowered_all file at zero table = table
lowered_all file at (suc m) table = lowered_all file (at + 3) m (lowered file at table)

-- they stand in the file, and none of their entries falls below 0
abbrev pub Lowerable : List ℕ → ℕ → ℕ → List ℕ → Type 0
Lowerable file at zero table = Unit {0}
Lowerable file at (suc m) table =
    (at + 3 ≤ length file) × (entry_at file at < 512) × (1 ≤ get_or table (entry_at file at) 0)
    × Lowerable file (at + 3) m (lowered file at table)
