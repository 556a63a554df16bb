-- Exchanges of two neighbours, chains of them from one order to another, and the pairs that two lists have differently. Nothing here knows of files or actions.
-- Assumes nothing.
use Rattle.std.specs.Prelude.{ℕ, zero, suc, ◌+◌, ◌≡◌, Bool, true, false, List, [], ◌∷◌, ◌++◌, map, eqb, length}
use Rattle.plain.specs.Choose.{pick}
use Rattle.ranks.specs.Ranks.{one}
use Rattle.orders.specs.Orders.{None, OrderFrom}

-- two lists agree but for two neighbours that changed places
pub data Exchange : List ℕ → List ℕ → Type 0 where
  here : {x y : ℕ} {rest : List ℕ} → Exchange (x ∷ y ∷ rest) (y ∷ x ∷ rest)
  later : {x : ℕ} {xs ys : List ℕ} → Exchange xs ys → Exchange (x ∷ xs) (x ∷ ys)

-- from a list by the lists given to another, each one exchange from the one before
abbrev pub Exchanged : List ℕ → List (List ℕ) → List ℕ → Type 0
Exchanged xs [] ys = xs ≡ ys
Exchanged xs (z ∷ rest) ys = Exchange xs z × Exchanged z rest ys

module _ (member : ℕ → Type 0) (before : ℕ → ℕ → Type 0) where
  -- each is an order of what is not taken yet
  abbrev pub AllOrders : (ℕ → Type 0) → List (List ℕ) → Type 0
  AllOrders taken [] = Unit {0}
  AllOrders taken (z ∷ rest) = OrderFrom member before taken z × AllOrders taken rest

-- ---- the chain

unfoldable pub without : ℕ → List ℕ → List ℕ
without y [] = []
without y (x ∷ rest) = pick (eqb x y) rest (x ∷ without y rest)

abbrev pub each : ℕ → List (List ℕ) → List (List ℕ)
each x lists = map (λ (l : List ℕ). x ∷ l) lists

-- the lists on the way while a member is brought to the front, the last with it there
unfoldable pub bringing : ℕ → List ℕ → List (List ℕ)
bringing y [] = []
bringing y (x ∷ rest) = pick (eqb x y) [] (each x (bringing y rest) ++ ((y ∷ x ∷ without y rest) ∷ []))

-- .. and while each member in turn is brought where the other list has it
unfoldable pub chain : List ℕ → List ℕ → List (List ℕ)
chain xs [] = []
chain xs (y ∷ ys) = bringing y xs ++ each y (chain (without y xs) ys)

-- ---- the pairs that two lists have differently

-- y comes before x in the list
unfoldable pub earlier : List ℕ → ℕ → ℕ → Bool
earlier [] y x = false
earlier (z ∷ rest) y x = pick (eqb z y) true (pick (eqb z x) false (earlier rest y x))

-- how many of some come before x in the list
unfoldable pub earlier_of : List ℕ → ℕ → List ℕ → ℕ
earlier_of ys x [] = 0
earlier_of ys x (y ∷ rest) = one (earlier ys y x) + earlier_of ys x rest

-- how many pairs of xs are the other way round in ys
unfoldable pub differing : List ℕ → List ℕ → ℕ
differing [] ys = 0
differing (x ∷ rest) ys = earlier_of ys x rest + differing rest ys

-- how many pairs so many numbers make
unfoldable pub pairs_of : ℕ → ℕ
pairs_of zero = 0
pairs_of (suc n) = n + pairs_of n
