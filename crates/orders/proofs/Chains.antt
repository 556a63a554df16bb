-- Chains: what they ask of a list that keeps their pairs, put together, and whether there is one, which is decided.
-- Assumes nothing.
use mathlib.Core.Path.{refl}
use mathlib.Core.Logic.{◌⊎◌, inl, inr}
use mathlib.Core.List.{List, [], ◌∷◌}
use Prim.Native.Nat.{ℕ}
use Rattle.orders.specs.Orders.{In, Distinct, StandsBefore, Chain, one, more}
use Rattle.orders.proofs.Rings.{chain_ends}
use Rattle.orders.proofs.Standing.{stands_before_in}

-- ---- one before another in a list

pub stands_before_from : (a b : ℕ) (xs : List ℕ) → StandsBefore a b xs → In a xs
stands_before_from a b [] s = absurd s
stands_before_from a b (x ∷ xs) (inl s) = inl s.0
stands_before_from a b (x ∷ xs) (inr s) = inr (stands_before_from a b xs s)

pub stands_on : (a b c : ℕ) (xs : List ℕ) → Distinct xs → StandsBefore a b xs → StandsBefore b c xs → StandsBefore a c xs
stands_on a b c [] d s u = s
stands_on a b c (x ∷ xs) d (inl s) (inl u) = absurd (d.0 (rw u.0 at s.1))
stands_on a b c (x ∷ xs) d (inl s) (inr u) = inl (s.0, stands_before_in b c xs u)
stands_on a b c (x ∷ xs) d (inr s) (inl u) = absurd (d.0 (rw u.0 at (stands_before_in a b xs s)))
stands_on a b c (x ∷ xs) d (inr s) (inr u) = inr (stands_on a b c xs d.1 s u)

pub none_before_itself : (a : ℕ) (xs : List ℕ) → Distinct xs → StandsBefore a a xs → ⊥
none_before_itself a [] d s = s
none_before_itself a (x ∷ xs) d (inl s) = d.0 (rw s.0 at s.1)
none_before_itself a (x ∷ xs) d (inr s) = none_before_itself a xs d.1 s

pub not_both_before : (a b : ℕ) (xs : List ℕ) → Distinct xs → StandsBefore a b xs → StandsBefore b a xs → ⊥
not_both_before a b xs d s u = none_before_itself a xs d (stands_on a b a xs d s u)

-- what stands before another as each pair asks does so as each chain of pairs asks
pub chain-stands :
    {member : ℕ → Type 0} {before : ℕ → ℕ → Type 0} (xs : List ℕ) → Distinct xs
    → ((a b : ℕ) → member a → member b → before a b → StandsBefore a b xs)
    → {x y : ℕ} → Chain member before x y → StandsBefore x y xs
chain-stands xs d keeps {x} {y} (one m n b) = keeps x y m n b
chain-stands {member} {before} xs d keeps {x} {y = z} (more {y = y} c n b) =
    stands_on x y z xs d (chain-stands xs d keeps c) (keeps y z (chain_ends member before c) n b)

-- ---- chains

pub chain_joined :
    {member : ℕ → Type 0} {before : ℕ → ℕ → Type 0} {x y z : ℕ}
    → Chain member before x y → Chain member before y z → Chain member before x z
chain_joined c (one m n b) = more c n b
chain_joined c (more d n b) = more (chain_joined c d) n b

-- chains of one relation are chains of another that has each of its pairs
pub chain-within :
    {member wider : ℕ → Type 0} {before looser : ℕ → ℕ → Type 0}
    → ((x y : ℕ) → member x → member y → before x y → wider x × (wider y × looser x y))
    → {x y : ℕ} → Chain member before x y → Chain wider looser x y
chain-within f {x} {y} (one m n b) = let g = f x y m n b in one g.0 g.1.0 g.1.1
chain-within {member} {wider} {before} f {x} {y = z} (more {y = y} c n b) =
    let g = f y z (chain_ends member before c) n b in more (chain-within f c) g.1.0 g.1.1

-- ---- whether there is a chain

module _ (before : ℕ → ℕ → Type 0) where
  -- a chain by way of some
  abbrev Via : List ℕ → ℕ → ℕ → Type 0
  Via [] x y = before x y
  Via (z ∷ zs) x y = Via zs x y ⊎ (Via zs x z × Via zs z y)

  via_decided : ((x y : ℕ) → Dec (before x y)) → (zs : List ℕ) (x y : ℕ) → Dec (Via zs x y)
  via_decided decided [] x y = decided x y
  via_decided decided (z ∷ zs) x y = go (via_decided decided zs x y) (via_decided decided zs x z) (via_decided decided zs z y)
    where
      go : Dec (Via zs x y) → Dec (Via zs x z) → Dec (Via zs z y) → Dec (Via (z ∷ zs) x y)
      go (yes v) _ _ = yes (inl v)
      go (no n) (yes v) (yes w) = yes (inr (v, w))
      go (no n) (no m) _ = no λ h. elim h [ inl v ↦ n v | inr v ↦ m v.0 ]
      go (no n) (yes _) (no m) = no λ h. elim h [ inl v ↦ n v | inr v ↦ m v.1 ]

  via_none : (zs : List ℕ) (x y : ℕ) → before x y → Via zs x y
  via_none [] x y b = b
  via_none (z ∷ zs) x y b = inl (via_none zs x y b)

  to_first : (z x : ℕ) (zs : List ℕ) → Via (z ∷ zs) x z → Via zs x z
  to_first z x zs (inl v) = v
  to_first z x zs (inr v) = v.0

  from_first : (z x : ℕ) (zs : List ℕ) → Via (z ∷ zs) z x → Via zs z x
  from_first z x zs (inl v) = v
  from_first z x zs (inr v) = v.1

  via_joined : (zs : List ℕ) (x y z : ℕ) → In y zs → Via zs x y → Via zs y z → Via zs x z
  via_joined [] x y z h v w = absurd h
  via_joined (u ∷ zs) x y z (inl e) v w = inr (to_first u x zs (rw e at v), from_first u z zs (rw e at w))
  via_joined (u ∷ zs) x y z (inr h) (inl v) (inl w) = inl (via_joined zs x y z h v w)
  via_joined (u ∷ zs) x y z (inr h) (inl v) (inr w) = inr (via_joined zs x y u h v w.0, w.1)
  via_joined (u ∷ zs) x y z (inr h) (inr v) (inl w) = inr (v.0, via_joined zs u y z h v.1 w)
  via_joined (u ∷ zs) x y z (inr h) (inr v) (inr w) = inr (v.0, w.1)

  module _
      (member : ℕ → Type 0) (all : List ℕ) (only : (x : ℕ) → In x all → member x)
      (in_all : (x y : ℕ) → member x → member y → before x y → In x all) where
    via_chain : (zs : List ℕ) → ((z : ℕ) → In z zs → member z) → (x y : ℕ) → member x → member y → Via zs x y → Chain member before x y
    via_chain [] f x y m n b = one m n b
    via_chain (z ∷ zs) f x y m n (inl v) = via_chain zs (λ u h. f u (inr h)) x y m n v
    via_chain (z ∷ zs) f x y m n (inr (v, w)) =
        chain_joined (via_chain zs (λ u h. f u (inr h)) x z m (f z (inl refl)) v) (via_chain zs (λ u h. f u (inr h)) z y (f z (inl refl)) n w)

    chain_via : {x y : ℕ} → Chain member before x y → Via all x y
    chain_via {x} {y} (one m n b) = via_none all x y b
    chain_via {x} {y = z} (more {y = y} c n b) =
        via_joined all x y z (in_all y z (chain_ends member before c) n b) (chain_via c) (via_none all y z b)

    -- all who come before another are in the list
    pub chain_decided : ((x y : ℕ) → Dec (before x y)) → (x y : ℕ) → member x → member y → Dec (Chain member before x y)
    chain_decided decided x y m n = go (via_decided decided all x y)
      where
        go : Dec (Via all x y) → Dec (Chain member before x y)
        go (yes v) = yes (via_chain all only x y m n v)
        go (no v) = no (λ c. v (chain_via c))
