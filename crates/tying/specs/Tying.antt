-- Numbers below 64 that are tied: each has a word of those that are tied before it.
-- Assumes nothing.
use Rattle.std.specs.Prelude.{ℕ, ◌+◌, ◌<◌, ◌≡◌, ◌⊎◌, ◌≢◌, List, get_or}
use Rattle.hanging.specs.Hanging.{InWord}

-- x is tied before y: it is in y's word
abbrev pub Tied : List ℕ → ℕ → ℕ → Type 0
Tied words x y = (y < 64) × InWord (get_or words y 0) x

-- the numbers of a word are below 64
abbrev pub Low : ℕ → Type 0
Low members = (x : ℕ) → InWord members x → x < 64

-- all that are tied are members
abbrev pub Among : ℕ → List ℕ → Type 0
Among members words = (x y : ℕ) → Tied words x y → InWord members x × InWord members y

-- each number of a word stands in its own place
abbrev pub InPlace : List ℕ → Type 0
InPlace room = (i : ℕ) → i < 64 → get_or room i 0 ≡ i

-- the numbers of a word, and what is tied before them
pub record Gathered (word : ℕ) (words : List ℕ) (all : ℕ) : Type 0 where
  pub kept : (x : ℕ) → InWord word x → InWord all x
  pub joined : (x y : ℕ) → InWord word y → InWord (get_or words y 0) x → InWord all x
  pub only : (x : ℕ) → InWord all x → InWord word x ⊎ ((y : ℕ) × (InWord word y × InWord (get_or words y 0) x))

-- entry k of those that stand in the room from 256 on
abbrev pub entry : List ℕ → ℕ → ℕ
entry room k = get_or room (256 + k) 0

-- the entries are numbers of a word, none twice; all that something is tied before are there, and behind that
pub record Sorts (room : List ℕ) (total : ℕ) (words : List ℕ) : Type 0 where
  pub low : (k : ℕ) → k < total → entry room k < 64
  pub once : (i k : ℕ) → i < k → k < total → entry room i ≢ entry room k
  pub there : (x y : ℕ) → Tied words x y → (k : ℕ) × ((k < total) × (entry room k ≡ y))
  pub behind : (x k : ℕ) → k < total → Tied words x (entry room k) → (i : ℕ) × ((i < k) × (entry room i ≡ x))
