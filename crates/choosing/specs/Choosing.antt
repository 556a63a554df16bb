-- A variable's next action, as the tables tell it, and the one to take.
-- Assumes nothing.
use Rattle.std.specs.Prelude.{ℕ, ◌+◌, ◌≤◌, ◌<◌, ◌≡◌, List, length, get_or, Option, Some, None}
use Rattle.ranks.specs.Ranks.{Inverse}
use Rattle.opening.specs.Conditions.{Readable, HoldUpTo}
use Rattle.opening.specs.Opening.{step_of, Unwanted}

-- i is the next action of v, nothing wants the value that it leaves, and all its conditions hold
pub record LooksReady (file places manys steps wants state : List ℕ) (v i : ℕ) : Type 0 where
  pub next : step_of steps state v ≡ i + 2
  pub unwanted : Unwanted wants state v
  pub hold : HoldUpTo file (get_or places i 0) state (get_or manys i 0)

-- what keeps a look at v in range
pub record Sound (file vars places manys steps state : List ℕ) (a v : ℕ) : Type 0 where
  pub there : v < 32
  pub narrow : get_or state v 0 < 16
  pub next : (i : ℕ) → step_of steps state v ≡ i + 2 → (i < a) × Readable file (get_or places i 0) (get_or manys i 0)
  pub own : (i : ℕ) → step_of steps state v ≡ i + 2 → get_or vars i 0 ≡ v

-- the conditions of v's next action that were found to hold are some of its first, and hold
abbrev pub HeldRight : (file places manys steps state held : List ℕ) → ℕ → Type 0
HeldRight file places manys steps state held v =
    (i : ℕ) → step_of steps state v ≡ i + 2
    → (get_or held v 0 ≤ get_or manys i 0) × HoldUpTo file (get_or places i 0) state (get_or held v 0)

-- what was found to hold is noted, and the notes stay right
pub record Noted (file places manys steps state held held' : List ℕ) : Type 0 where
  pub long : length held' ≡ length held
  pub right : (v : ℕ) → HeldRight file places manys steps state held v → HeldRight file places manys steps state held' v

-- one of least rank among those that look ready, or none looks so
abbrev pub Chosen : List ℕ → ℕ → (file places manys steps wants state : List ℕ) → Option ℕ → Type 0
Chosen ranks n file places manys steps wants state (Some i) =
    ((v : ℕ) × ((v < n) × LooksReady file places manys steps wants state v i))
    × ((v j : ℕ) → v < n → LooksReady file places manys steps wants state v j → get_or ranks i 0 ≤ get_or ranks j 0)
Chosen ranks n file places manys steps wants state None = (v j : ℕ) → v < n → LooksReady file places manys steps wants state v j → ⊥

-- what keeps a look at each of the first n variables in range and right
pub record Guarded (file vars places manys steps state ranks room : List ℕ) (n : ℕ) (held : List ℕ) : Type 0 where
  pub sound : (v : ℕ) → v < n → Sound file vars places manys steps state (length ranks) v
  pub right : (v : ℕ) → v < n → HeldRight file places manys steps state held v
  pub by_rank : Inverse ranks room
  pub long : length held ≡ 32
