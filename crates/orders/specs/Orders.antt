-- Orders of members under 'comes before', rings, and dictionary order of ranks. Nothing here knows of files or actions.
-- Assumes nothing.
use Rattle.std.specs.Prelude.{ℕ, ◌≤◌, ◌<◌, ◌≡◌, ◌⊎◌, List, [], ◌∷◌, length}

abbrev pub In : ℕ → List ℕ → Type 0
In x [] = ⊥
In x (y ∷ rest) = (x ≡ y) ⊎ In x rest

abbrev pub Distinct : List ℕ → Type 0
Distinct [] = Unit {0}
Distinct (x ∷ rest) = (In x rest → ⊥) × Distinct rest

-- a has a place before a place of b
abbrev pub StandsBefore : ℕ → ℕ → List ℕ → Type 0
StandsBefore a b [] = ⊥
StandsBefore a b (x ∷ rest) = ((a ≡ x) × In b rest) ⊎ StandsBefore a b rest

-- none taken yet; and one more taken
abbrev pub None : ℕ → Type 0
None y = ⊥

abbrev pub Plus : ℕ → (ℕ → Type 0) → ℕ → Type 0
Plus x taken y = (y ≡ x) ⊎ taken y

module _ (member : ℕ → Type 0) (before : ℕ → ℕ → Type 0) where
  -- a member not yet taken, while all that comes before it is
  pub record Ready (taken : ℕ → Type 0) (x : ℕ) : Type 0 where
    pub is_member : member x
    pub not_taken : taken x → ⊥
    pub all_before : (y : ℕ) → member y → before y x → taken y

  -- from what is taken, the list takes one ready member after another
  abbrev pub Takes : (ℕ → Type 0) → List ℕ → Type 0
  Takes taken [] = Unit {0}
  Takes taken (x ∷ rest) = Ready taken x × Takes (Plus x taken) rest

  -- .. and in the end every member is taken
  abbrev pub OrderFrom : (ℕ → Type 0) → List ℕ → Type 0
  OrderFrom taken [] = (x : ℕ) → member x → taken x
  OrderFrom taken (x ∷ rest) = Ready taken x × OrderFrom (Plus x taken) rest

  -- an order of the members that keeps 'comes before'
  abbrev pub Order : List ℕ → Type 0
  Order list = OrderFrom None list

  -- one comes before the other at any remove
  pub data Chain (x : ℕ) : ℕ → Type 0 where
    one : {y : ℕ} → member x → member y → before x y → Chain x y
    more : {y z : ℕ} → Chain x y → member z → before y z → Chain x z

  -- on a ring: a circle of members, each coming before the next
  abbrev pub OnRing : ℕ → Type 0
  OnRing x = Chain x x

  -- on a ring, or after one at any remove
  pub record Behind (x : ℕ) : Type 0 where
    pub ring : ℕ
    pub on_ring : OnRing ring
    pub follows : (x ≡ ring) ⊎ Chain ring x

  -- each taken member has the least rank among those that were ready, until none is
  abbrev pub Greedy : (ℕ → ℕ) → (ℕ → Type 0) → List ℕ → Type 0
  Greedy rank taken [] = (y : ℕ) → Ready taken y → ⊥
  Greedy rank taken (x ∷ rest) = Ready taken x × ((y : ℕ) → Ready taken y → rank x ≤ rank y) × Greedy rank (Plus x taken) rest

-- n is how many numbers have the property
pub record Counted (P : ℕ → Type 0) (n : ℕ) : Type 0 where
  pub list : List ℕ
  pub once : Distinct list
  pub all : (x : ℕ) → P x → In x list
  pub only : (x : ℕ) → In x list → P x
  pub long : length list ≡ n

-- dictionary order of ranks: smaller at the first place where they differ, or nowhere different
abbrev pub First : (ℕ → ℕ) → List ℕ → List ℕ → Type 0
First rank [] ys = Unit {0}
First rank (x ∷ xs) [] = ⊥
First rank (x ∷ xs) (y ∷ ys) = (rank x < rank y) ⊎ ((rank x ≡ rank y) × First rank xs ys)
