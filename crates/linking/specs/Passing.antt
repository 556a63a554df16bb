-- What the passes over the rows do: a set joined, the least of one set outside another, rows gathered, numbers finished.
-- Assumes nothing.
use Rattle.std.specs.Prelude.{ℕ, ◌+◌, ◌*◌, ◌≤◌, ◌<◌, ◌≡◌, ◌⊎◌, ◌≢◌, true, false, ◌||◌, List, [], length, get_or}
use Rattle.bits.specs.Bits.{bit, within}
use Rattle.orders.specs.Orders.{Chain, OnRing}
use Rattle.linking.specs.Linking.{Rows, Linked, Shaped, Anyone}

-- r is the least number in the set that is not in the other, or 256 if there is none
pub record LeastOutside (set other : List ℕ) (r : ℕ) : Type 0 where
  pub most : r ≤ 256
  pub there : r < 256 → within set r ≡ true
  pub outside : r < 256 → within other r ≡ false
  pub none_below : (i : ℕ) → i < r → within set i ≡ true → within other i ≡ true

-- the set has the members of the other besides its own
pub record Joined (other before after : List ℕ) : Type 0 where
  pub long : length after ≡ 4
  pub members : (z : ℕ) → within after z ≡ (within other z || within before z)

-- the set has the rows of some numbers besides its own members
pub record Joins (some : ℕ → Type 0) (rows : Rows) (before after : List ℕ) : Type 0 where
  pub long : length after ≡ 4
  pub kept : (z : ℕ) → within before z ≡ true → within after z ≡ true
  pub joined : (y z : ℕ) → some y → Linked rows y z → within after z ≡ true
  pub only : (z : ℕ) → within after z ≡ true → (within before z ≡ true) ⊎ ((y : ℕ) × (some y × Linked rows y z))

-- a number of word q of a set
abbrev pub OfWord : ℕ → ℕ → ℕ → Type 0
OfWord q word y = (k : ℕ) × ((k < 64) × ((y ≡ q * 64 + k) × (bit word k ≡ true)))

-- the row of x has the rows of all that were in it besides, and the other rows are as they were
pub record Gathers (x : ℕ) (rows rows' : Rows) : Type 0 where
  pub shaped : Shaped rows'
  pub others : (y : ℕ) → y ≢ x → get_or rows' y [] ≡ get_or rows y []
  pub row : Joins (Linked rows x) rows (get_or rows x []) (get_or rows' x [])

-- the rows of those that are done have all that a chain leads to, all of them done, and none leads back; the others are as they were
pub record Partly (before rows : Rows) (done : List ℕ) : Type 0 where
  pub kept : (x : ℕ) → within done x ≡ false → get_or rows x [] ≡ get_or before x []
  pub sound : (x y : ℕ) → within done x ≡ true → Linked rows x y → Chain Anyone (Linked before) x y
  pub full : (x y : ℕ) → within done x ≡ true → Chain Anyone (Linked before) x y → Linked rows x y
  pub onward : (x y : ℕ) → within done x ≡ true → Chain Anyone (Linked before) x y → within done y ≡ true
  pub no_ring : (x : ℕ) → within done x ≡ true → OnRing Anyone (Linked before) x → ⊥

-- one number is done besides those that were
pub record Finishes (root : ℕ) (done done' : List ℕ) : Type 0 where
  pub reached : within done' root ≡ true
  pub stays : (y : ℕ) → within done y ≡ true → within done' y ≡ true

-- a circle of links
abbrev pub Ring : Rows → Type 0
Ring before = (x : ℕ) × OnRing Anyone (Linked before) x
