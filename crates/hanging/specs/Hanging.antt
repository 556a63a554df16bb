-- Numbers below 64 that are to be taken, each after those that come directly before it, as bits of words.
-- Assumes nothing.
use Rattle.std.specs.Prelude.{ℕ, ◌≤◌, ◌<◌, ◌≡◌, ◌⊎◌, true, List, map, get_or, take, drop}
use Rattle.bits.specs.Bits.{bit}
use Rattle.orders.specs.Orders.{None, Greedy}

-- y is in the word
abbrev pub InWord : ℕ → ℕ → Type 0
InWord x y = bit x y ≡ true

-- x comes directly before y: it is in y's word of the table
abbrev pub DirectlyBefore : List ℕ → ℕ → ℕ → Type 0
DirectlyBefore before x y = InWord (get_or before y 0) x

-- nothing that is left comes directly before y
abbrev pub Free : List ℕ → ℕ → ℕ → Type 0
Free before left y = (x : ℕ) → DirectlyBefore before x y → InWord left x → ⊥

-- y is ready, or hangs on one that is left and comes directly before it
abbrev pub Settled : List ℕ → ℕ → ℕ → List ℕ → ℕ → Type 0
Settled before left ready hung y =
    InWord ready y ⊎ ((x : ℕ) × (InWord left x × (DirectlyBefore before x y × InWord (get_or hung x 0) y)))

-- some are settled: those that are free are ready besides, and the others hang besides
pub record Hangs (some : ℕ → Type 0) (before : List ℕ) (left ready : ℕ) (hung : List ℕ) (ready' : ℕ) (hung' : List ℕ) : Type 0 where
  pub ready_stays : (y : ℕ) → InWord ready y → InWord ready' y
  pub ready_only : (y : ℕ) → InWord ready' y → InWord ready y ⊎ (some y × Free before left y)
  pub hung_stays : (x y : ℕ) → InWord (get_or hung x 0) y → InWord (get_or hung' x 0) y
  pub hung_only : (x y : ℕ) → InWord (get_or hung' x 0) y → InWord (get_or hung x 0) y ⊎ (some y × DirectlyBefore before x y)
  pub settled : (y : ℕ) → some y → Settled before left ready' hung' y

-- that number alone
abbrev pub Only : ℕ → ℕ → Type 0
Only x y = y ≡ x

-- r is the least of those left that nothing left comes directly before; or there is none, and r is 64 at least
pub record LeastFree (before : List ℕ) (left r : ℕ) : Type 0 where
  pub free : r < 64 → InWord left r × Free before left r
  pub least : (y : ℕ) → y < r → InWord left y → Free before left y → ⊥
  pub none : 64 ≤ r → (y : ℕ) → InWord left y → Free before left y → ⊥

-- the members were taken greedily, the least first, and their names stand in the room from 256 on
pub record TakenByName (members : ℕ) (before names : List ℕ) (count : ℕ) (room : List ℕ) : Type 0 where
  pub list : List ℕ
  pub greedy : Greedy (InWord members) (DirectlyBefore before) (λ x. x) None list
  pub named : take count (drop 256 room) ≡ map (λ x. get_or names x 0) list
