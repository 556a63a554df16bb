-- Which numbers a list that takes ready members holds: members, none twice, and an order holds them all.
-- Assumes nothing.
use mathlib.Core.Path.{◌≡◌, refl}
use mathlib.Core.Logic.{◌⊎◌, inl, inr}
use mathlib.Core.List.{List, [], ◌∷◌}
use Prim.Native.Nat.{ℕ}
use lib.ListN.{length}
use Rattle.orders.specs.Orders.{In, Distinct, None, Plus, Takes, OrderFrom, Order}
use Rattle.orders.proofs.Lists.{distinct_same_length}

-- what is taken after the list
abbrev pub TakenBy : (ℕ → Type 0) → List ℕ → ℕ → Type 0
TakenBy taken xs y = In y xs ⊎ taken y

-- .. where the first of the list is taken before the others, or with them
pub first_joined : {A B C : Type 0} → A ⊎ (B ⊎ C) → (B ⊎ A) ⊎ C
first_joined (inl h) = inl (inr h)
first_joined (inr (inl e)) = inl (inl e)
first_joined (inr (inr t)) = inr t

pub first_parted : {A B C : Type 0} → (B ⊎ A) ⊎ C → A ⊎ (B ⊎ C)
first_parted (inl (inl e)) = inr (inl e)
first_parted (inl (inr h)) = inl h
first_parted (inr t) = inr (inr t)

module _ (member : ℕ → Type 0) (before : ℕ → ℕ → Type 0) where
  pub takes_none_taken : (taken : ℕ → Type 0) (xs : List ℕ) → Takes member before taken xs → (x : ℕ) → In x xs → taken x → ⊥
  takes_none_taken taken [] t x h = λ _. h
  takes_none_taken taken (y ∷ xs) t x (inl e) = rw e t.0.not_taken
  takes_none_taken taken (y ∷ xs) t x (inr h) = λ k. takes_none_taken (Plus y taken) xs t.1 x h (inr k)

  pub takes_distinct : (taken : ℕ → Type 0) (xs : List ℕ) → Takes member before taken xs → Distinct xs
  takes_distinct taken [] t = tt
  takes_distinct taken (x ∷ xs) t =
      (λ h. takes_none_taken (Plus x taken) xs t.1 x h (inl refl), takes_distinct (Plus x taken) xs t.1)

  pub takes_members : (taken : ℕ → Type 0) (xs : List ℕ) → Takes member before taken xs → (x : ℕ) → In x xs → member x
  takes_members taken [] t x h = absurd h
  takes_members taken (y ∷ xs) t x (inl e) = rw e t.0.is_member
  takes_members taken (y ∷ xs) t x (inr h) = takes_members (Plus y taken) xs t.1 x h

  -- an order takes ready members, and all of them
  pub order_takes : (taken : ℕ → Type 0) (xs : List ℕ) → OrderFrom member before taken xs → Takes member before taken xs
  order_takes taken [] o = tt
  order_takes taken (x ∷ xs) o = (o.0, order_takes (Plus x taken) xs o.1)

  pub order_takes_all : (taken : ℕ → Type 0) (xs : List ℕ) → OrderFrom member before taken xs → (x : ℕ) → member x → TakenBy taken xs x
  order_takes_all taken [] o x m = inr (o x m)
  order_takes_all taken (y ∷ xs) o x m = first_joined (order_takes_all (Plus y taken) xs o.1 x m)

  pub takes_all_order :
      (taken : ℕ → Type 0) (xs : List ℕ)
      → Takes member before taken xs → ((x : ℕ) → member x → TakenBy taken xs x) → OrderFrom member before taken xs
  takes_all_order taken [] t a = λ x m. elim (a x m) [ inl h ↦ absurd h | inr k ↦ k ]
  takes_all_order taken (y ∷ xs) t a = (t.0, takes_all_order (Plus y taken) xs t.1 (λ x m. first_parted (a x m)))

  pub all_taken_is_order : (xs : List ℕ) → Takes member before None xs → ((x : ℕ) → member x → In x xs) → Order member before xs
  all_taken_is_order xs t a = takes_all_order None xs t (λ x m. inl (a x m))

  module _ (xs : List ℕ) (order : Order member before xs) where
    pub order_distinct : Distinct xs
    order_distinct = takes_distinct None xs (order_takes None xs order)

    pub order_members : (x : ℕ) → In x xs → member x
    order_members = takes_members None xs (order_takes None xs order)

    pub order_has_all : (x : ℕ) → member x → In x xs
    order_has_all x m = elim (order_takes_all None xs order x m) [ inl h ↦ h | inr k ↦ absurd k ]

  pub orders_equally_long : (xs ys : List ℕ) → Order member before xs → Order member before ys → length xs ≡ length ys
  orders_equally_long xs ys o p =
      distinct_same_length xs ys (order_distinct xs o) (order_distinct ys p)
      (λ x h. order_has_all ys p x (order_members xs o x h)) (λ x h. order_has_all xs o x (order_members ys p x h))
