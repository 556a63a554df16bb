-- Numbers below 256 that are linked, a row of 256 bits for each, and all that a chain of links leads to.
-- Assumes nothing.
use Rattle.std.specs.Prelude.{ℕ, ◌<◌, ◌≡◌, ◌↔◌, true, Result, Ok, Err, List, [], length, get_or}
use Rattle.bits.specs.Bits.{within}
use Rattle.orders.specs.Orders.{Chain, OnRing}
use Rattle.linking.specs.declared.Circle.{Circle}

abbrev pub Rows : Type 0
Rows = List (List ℕ)

-- a link leads from x to y: y is in x's row
abbrev pub Linked : Rows → ℕ → ℕ → Type 0
Linked rows x y = within (get_or rows x []) y ≡ true

-- 256 rows of four words each
pub record Shaped (rows : Rows) : Type 0 where
  pub long : length rows ≡ 256
  pub fours : (x : ℕ) → x < 256 → length (get_or rows x []) ≡ 4

abbrev pub Anyone : ℕ → Type 0
Anyone x = Unit {0}

-- what closing links found: what is linked afterwards is what a chain of links leads to, and none leads back; or there is a circle
pub data ClosesTo (before after : ℕ → ℕ → Type 0) : Result (Unit {0}) Circle → Type 0 where
  chains :
      ((x : ℕ) → OnRing Anyone before x → ⊥) → ((x y : ℕ) → after x y ↔ Chain Anyone before x y)
      → ClosesTo before after (Ok tt)
  circle : {x : ℕ} {c : Circle} → OnRing Anyone before x → ClosesTo before after (Err c)

-- .. where rows have the links
abbrev pub Closes : Rows → Rows → Result (Unit {0}) Circle → Type 0
Closes before after = ClosesTo (Linked before) (Linked after)
