-- Moves as the tables tell them: a variable whose next action looks ready takes it. What so many moves lead to, and what keeps them in range.
-- Assumes nothing.
use Rattle.std.specs.Prelude.{ℕ, suc, ◌+◌, ◌≤◌, ◌<◌, ◌≡◌, List, length, get_or, set}
use Rattle.tables.specs.Rows.{Row, post_column, place_column, many_column}
use Rattle.opening.specs.Conditions.{Readable, Lowerable, lowered_all}
use Rattle.opening.specs.Opening.{step_of}
use Rattle.choosing.specs.Choosing.{LooksReady}

module _ (file : List ℕ) (acts : List Row) (steps : List ℕ) where
  -- i is the next action of v and looks ready
  abbrev pub Looks : List ℕ → List ℕ → ℕ → ℕ → Type 0
  Looks wants state v i = LooksReady file (place_column acts) (many_column acts) steps wants state v i

  -- what is wanted when i is taken
  abbrev pub wanted_after : List ℕ → ℕ → List ℕ
  wanted_after wants i = lowered_all file (get_or (place_column acts) i 0) (get_or (many_column acts) i 0) wants

  -- .. and the state, if it is an action of v
  abbrev pub state_after : List ℕ → ℕ → ℕ → List ℕ
  state_after state v i = set state v (get_or (post_column acts) i 0)

  -- v looks at no action that is ready
  abbrev pub Stays : List ℕ → List ℕ → ℕ → Type 0
  Stays wants state v = (i : ℕ) → Looks wants state v i → ⊥

  -- what keeps a look at each of the first n variables in range, and the move after it
  pub record LooksInRange (n : ℕ) (wants state : List ℕ) : Type 0 where
    pub few : n ≤ 32
    pub wants_long : length wants ≡ 512
    pub narrow : (v : ℕ) → v < n → get_or state v 0 < 16
    pub next : (v i : ℕ) → v < n → step_of steps state v ≡ i + 2 → (i < 256) × Readable file (get_or (place_column acts) i 0) (get_or (many_column acts) i 0)
    pub able : (v i : ℕ) → v < n → Looks wants state v i → Lowerable file (get_or (place_column acts) i 0) (get_or (many_column acts) i 0) wants

  -- so many moves of the first n variables lead to these counts and this state
  pub data Moves (n : ℕ) (wants state : List ℕ) : ℕ → List ℕ → List ℕ → Type 0 where
    none : Moves n wants state 0 wants state
    more :
        {k : ℕ} {wants' state' : List ℕ} (v i : ℕ)
        → Moves n wants state k wants' state' → v < n → Looks wants' state' v i
        → Moves n wants state (suc k) (wanted_after wants' i) (state_after state' v i)

  -- wherever moves lead, the next are in range; and there are at most 256 of them
  abbrev pub Guided : ℕ → List ℕ → List ℕ → Type 0
  Guided n wants state = (k : ℕ) (wants' state' : List ℕ) → Moves n wants state k wants' state' → LooksInRange n wants' state' × (k ≤ 256)

  -- r moves, and v cannot move on
  pub record Advanced (n v : ℕ) (wants state : List ℕ) (r : ℕ) (wants' state' : List ℕ) : Type 0 where
    pub moves : Moves n wants state r wants' state'
    pub stays : Stays wants' state' v

  -- r moves; if there was none, no variable can move
  pub record Passed (n : ℕ) (wants state : List ℕ) (r : ℕ) (wants' state' : List ℕ) : Type 0 where
    pub moves : Moves n wants state r wants' state'
    pub stay : r ≡ 0 → (v : ℕ) → v < n → Stays wants state v
