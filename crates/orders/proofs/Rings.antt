-- None that is on a ring or behind one is ever taken, so a ring bars every order.
-- Assumes nothing.
use mathlib.Core.Path.{◌≡◌, refl}
use mathlib.Core.Logic.{◌⊎◌, inl, inr}
use mathlib.Core.List.{List, [], ◌∷◌}
use Prim.Native.Nat.{ℕ}
use Rattle.orders.specs.Orders.{In, None, Plus, Ready, Takes, Order, Chain, one, more, OnRing, Behind}
use Rattle.orders.proofs.Members.{order_takes, order_has_all}

module _ (member : ℕ → Type 0) (before : ℕ → ℕ → Type 0) where
  -- ---- chains

  pub chain_starts : {x y : ℕ} → Chain member before x y → member x
  chain_starts (one m n b) = m
  chain_starts (more c n b) = chain_starts c

  pub chain_ends : {x y : ℕ} → Chain member before x y → member y
  chain_ends (one m n b) = n
  chain_ends (more c n b) = n

  pub chain_before : {x y z : ℕ} → member x → before x y → Chain member before y z → Chain member before x z
  chain_before m b (one my mz c) = more (one m my b) mz c
  chain_before m b (more c mz d) = more (chain_before m b c) mz d

  -- ---- behind a ring

  pub ring_behind : {x : ℕ} → OnRing member before x → Behind member before x
  ring_behind {x} c = record { ring = x; on_ring = c; follows = inl refl }

  chain_has_one_before :
      {r x : ℕ} → OnRing member before r → Chain member before r x → (y : ℕ) × (member y × (before y x × Behind member before y))
  chain_has_one_before {r} ring (one m n b) = (r, (m, (b, ring_behind ring)))
  chain_has_one_before {r} ring (more {y = y} c n b) = (y, (chain_ends c, (b, record { ring = r; on_ring = ring; follows = inr c })))

  pub behind_has_one_before : {x : ℕ} → Behind member before x → (y : ℕ) × (member y × (before y x × Behind member before y))
  behind_has_one_before {x} b = go b.follows
    where
      go : (x ≡ b.ring) ⊎ Chain member before b.ring x → (y : ℕ) × (member y × (before y x × Behind member before y))
      go (inl e) = rw e (chain_has_one_before b.on_ring b.on_ring)
      go (inr c) = chain_has_one_before b.on_ring c

  none_behind_ready :
      {taken : ℕ → Type 0} {x : ℕ} → ((y : ℕ) → Behind member before y → taken y → ⊥)
      → Ready member before taken x → Behind member before x → ⊥
  none_behind_ready none r b =
      let p = behind_has_one_before b in
      none p.0 p.1.1.1 (r.all_before p.0 p.1.0 p.1.1.0)

  behind_never_taken_from :
      (taken : ℕ → Type 0) (xs : List ℕ) → ((y : ℕ) → Behind member before y → taken y → ⊥)
      → Takes member before taken xs → (x : ℕ) → In x xs → Behind member before x → ⊥
  behind_never_taken_from taken [] none t x h = λ _. h
  behind_never_taken_from taken (y ∷ xs) none t x (inl e) = rw e (none_behind_ready none t.0)
  behind_never_taken_from taken (y ∷ xs) none t x (inr h) =
      behind_never_taken_from (Plus y taken) xs
      (λ z b k. elim k [ inl e ↦ none_behind_ready none t.0 (rw e at b) | inr g ↦ none z b g ]) t.1 x h

  pub behind_never_taken : (xs : List ℕ) → Takes member before None xs → (x : ℕ) → In x xs → Behind member before x → ⊥
  behind_never_taken xs = behind_never_taken_from None xs (λ y b h. h)

  pub ring_bars_orders : {x : ℕ} (xs : List ℕ) → OnRing member before x → Order member before xs → ⊥
  ring_bars_orders {x} xs c o =
      behind_never_taken xs (order_takes member before None xs o) x (order_has_all member before xs o x (chain_starts c)) (ring_behind c)
