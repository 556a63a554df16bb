-- Document 01's rank lists: a rank list has one entry for each action and holds each of 0 to A - 1 once.
-- Assumes nothing.
use Rattle.std.specs.Prelude.{Bool, true, false, List, [], ◌∷◌, ◌++◌, ◌≡◌, ℕ, zero, suc, ◌+◌, ◌<◌, eqb, length, get_or, set}

-- 1 for a test that holds, 0 for one that fails
abbrev pub one : Bool → ℕ
one true = 1
one false = 0

-- how often k stands in the list
abbrev pub count : ℕ → List ℕ → ℕ
count k [] = 0
count k (x ∷ xs) = one (eqb x k) + count k xs

pub record RankList (n : ℕ) (l : List ℕ) : Type 0 where
  pub an_entry_for_each : length l ≡ n
  pub holds_each_once : (k : ℕ) → k < n → count k l ≡ 1

-- 0, 1, .., n - 1: entry i is i
abbrev pub rising : ℕ → List ℕ
rising zero = []
rising (suc n) = rising n ++ (n ∷ [])

-- entries i and j exchanged
abbrev pub exchanged : List ℕ → ℕ → ℕ → List ℕ
exchanged l i j = set (set l i (get_or l j 0)) j (get_or l i 0)

-- no number stands in the list twice
abbrev pub Apart : List ℕ → Type 0
Apart l = (i j : ℕ) → i < length l → j < length l → get_or l i 0 ≡ get_or l j 0 → i ≡ j

-- the table has each place of the list under the number that stands there
abbrev pub Inverse : List ℕ → List ℕ → Type 0
Inverse l table = (i : ℕ) → i < length l → (get_or l i 0 < 256) × (get_or table (get_or l i 0) 0 ≡ i)

-- the list turned round
pub record Turned (l table : List ℕ) : Type 0 where
  pub inverse : Inverse l table
