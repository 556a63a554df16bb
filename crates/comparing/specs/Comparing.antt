-- Sets of actions as words: a list's actions, pairs as ties, what is wanted before each member and what of it is not tied so.
-- Assumes nothing.
use Rattle.std.specs.Prelude.{ℕ, ◌<◌, ◌↔◌, List, get_or}
use Rattle.orders.specs.Orders.{In}
use Rattle.hanging.specs.Hanging.{InWord}
use Rattle.tying.specs.Tying.{Tied}

-- the members are just the numbers that the list has
abbrev pub ListedIn : List ℕ → ℕ → Type 0
ListedIn list members = (i : ℕ) → InWord members i ↔ In i list

-- nothing is tied
abbrev pub Untied : List ℕ → Type 0
Untied ties = (x y : ℕ) → Tied ties x y → ⊥

-- x is wanted before y, and both are members
abbrev pub Wanted : ℕ → List ℕ → ℕ → ℕ → Type 0
Wanted members words x y = InWord members x × InWord members y × InWord (get_or words y 0) x

-- .. which y lacks: x is wanted before it and not tied
abbrev pub Lacking : (members : ℕ) (words ties : List ℕ) → ℕ → ℕ → Type 0
Lacking members words ties x y = InWord members y × InWord (get_or words y 0) x × (InWord (get_or ties y 0) x → ⊥)

-- just the numbers that some member lacks
pub record LacksAny (members : ℕ) (words ties : List ℕ) (any : ℕ) : Type 0 where
  pub there : (x y : ℕ) → Lacking members words ties x y → InWord any x
  pub only : (x : ℕ) → InWord any x → (y : ℕ) × Lacking members words ties x y

-- r is the lowest member that lacks x
pub record LowestSecond (members : ℕ) (words ties : List ℕ) (x r : ℕ) : Type 0 where
  pub lacks : Lacking members words ties x r
  pub lower : (y : ℕ) → y < r → Lacking members words ties x y → ⊥
