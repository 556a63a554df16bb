-- Ranks marked as bits: put into one word, or into a word of a table.
-- Assumes nothing.
use Rattle.std.specs.Prelude.{ℕ, ◌+◌, ◌<◌, ◌≡◌, ◌⊎◌, ◌≢◌, true, List, length, get_or}
use Rattle.bits.specs.Bits.{bit}

-- every rank is that of a bit
abbrev pub Ranked : List ℕ → Type 0
Ranked ranks = (i : ℕ) → i < length ranks → get_or ranks i 0 < 64

-- bit b of word a is set
abbrev pub Marked : List ℕ → ℕ → ℕ → Type 0
Marked table a b = bit (get_or table a 0) b ≡ true

abbrev pub Grows : List ℕ → List ℕ → Type 0
Grows table table' = (a b : ℕ) → Marked table a b → Marked table' a b

-- the rank of the action that sets q is put into the word, unless q is the start
pub record SetterMarked (word q start rank word' : ℕ) : Type 0 where
  pub grows : (b : ℕ) → bit word b ≡ true → bit word' b ≡ true
  pub there : q ≢ start → bit word' rank ≡ true
  pub only : (b : ℕ) → bit word' b ≡ true → (bit word b ≡ true) ⊎ ((q ≢ start) × (rank ≡ b))

-- the rank is put before that of the action that leaves the value, where the step names one
pub record LeaverMarked (step rank : ℕ) (ranks before before' : List ℕ) : Type 0 where
  pub long : length before' ≡ 64
  pub grows : Grows before before'
  pub there : (l : ℕ) → step ≡ l + 2 → Marked before' (get_or ranks l 0) rank
  pub only : (a b : ℕ) → Marked before' a b → Marked before a b ⊎ ((b ≡ rank) × ((l : ℕ) × ((step ≡ l + 2) × (get_or ranks l 0 ≡ a))))
