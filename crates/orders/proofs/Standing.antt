-- What an order is, said by places: each member once and nothing else, and what comes before another stands before it.
-- Assumes nothing.
use mathlib.Core.Path.{refl}
use mathlib.Core.Logic.{◌⊎◌, inl, inr}
use mathlib.Core.List.{List, [], ◌∷◌}
use Prim.Native.Nat.{ℕ}
use Rattle.orders.specs.Orders.{In, Distinct, StandsBefore, None, Plus, Ready, OrderFrom, Order}
use Rattle.orders.proofs.Members.{TakenBy, first_parted, order_distinct, order_members, order_has_all}

pub stands_before_in : (a b : ℕ) (xs : List ℕ) → StandsBefore a b xs → In b xs
stands_before_in a b [] s = absurd s
stands_before_in a b (x ∷ xs) (inl s) = inr s.1
stands_before_in a b (x ∷ xs) (inr s) = inr (stands_before_in a b xs s)

module _ (member : ℕ → Type 0) (before : ℕ → ℕ → Type 0) where
  pub record Standing (xs : List ℕ) : Type 0 where
    pub none_twice : Distinct xs
    pub all_members : (x : ℕ) → member x → In x xs
    pub only_members : (x : ℕ) → In x xs → member x
    pub keeps_before : (a b : ℕ) → member a → member b → before a b → StandsBefore a b xs

  -- ---- an order stands so

  taken_or_stands :
      (taken : ℕ → Type 0) (xs : List ℕ) → OrderFrom member before taken xs
      → (a b : ℕ) → member a → before a b → In b xs → StandsBefore a b xs ⊎ taken a
  taken_or_stands taken [] o a b m c h = absurd h
  taken_or_stands taken (x ∷ xs) o a b m c (inl e) = inr (o.0.all_before a m (rw e at c))
  taken_or_stands taken (x ∷ xs) o a b m c (inr h) = go (taken_or_stands (Plus x taken) xs o.1 a b m c h)
    where
      go : StandsBefore a b xs ⊎ Plus x taken a → StandsBefore a b (x ∷ xs) ⊎ taken a
      go (inl s) = inl (inr s)
      go (inr (inl e)) = inl (inl (e, h))
      go (inr (inr t)) = inr t

  pub order_stands : (xs : List ℕ) → Order member before xs → Standing xs
  order_stands xs o = record {
    none_twice = order_distinct member before xs o;
    all_members = order_has_all member before xs o;
    only_members = order_members member before xs o;
    keeps_before = λ a b m n c.
        elim (taken_or_stands None xs o a b m c (order_has_all member before xs o b n)) [ inl s ↦ s | inr t ↦ absurd t ];
  }

  -- ---- and back

  -- the same where some are taken before
  record StandingFrom (taken : ℕ → Type 0) (xs : List ℕ) : Type 0 where
    none_twice : Distinct xs
    none_taken : (x : ℕ) → In x xs → taken x → ⊥
    all_members : (x : ℕ) → member x → TakenBy taken xs x
    only_members : (x : ℕ) → In x xs → member x
    keeps_before : (a b : ℕ) → member a → In b xs → before a b → StandsBefore a b xs ⊎ taken a

  stands_ready : {taken : ℕ → Type 0} {x : ℕ} {xs : List ℕ} → StandingFrom taken (x ∷ xs) → Ready member before taken x
  stands_ready {taken} {x} {xs} s = record {
    is_member = s.only_members x (inl refl);
    not_taken = s.none_taken x (inl refl);
    all_before = λ y m b. go y (s.keeps_before y x m (inl refl) b);
  }
    where
      go : (y : ℕ) → StandsBefore y x (x ∷ xs) ⊎ taken y → taken y
      go y (inl (inl t)) = absurd (s.none_twice.0 t.1)
      go y (inl (inr t)) = absurd (s.none_twice.0 (stands_before_in y x xs t))
      go y (inr t) = t

  stands_rest : {taken : ℕ → Type 0} {x : ℕ} {xs : List ℕ} → StandingFrom taken (x ∷ xs) → StandingFrom (Plus x taken) xs
  stands_rest {taken} {x} {xs} s = record {
    none_twice = s.none_twice.1;
    none_taken = λ y h t. elim t [ inl e ↦ s.none_twice.0 (rw e at h) | inr k ↦ s.none_taken y (inr h) k ];
    all_members = λ y m. first_parted (s.all_members y m);
    only_members = λ y h. s.only_members y (inr h);
    keeps_before = λ a b m h c. go a b (s.keeps_before a b m (inr h) c);
  }
    where
      go : (a b : ℕ) → StandsBefore a b (x ∷ xs) ⊎ taken a → StandsBefore a b xs ⊎ Plus x taken a
      go a b (inl (inl t)) = inr (inl t.0)
      go a b (inl (inr t)) = inl t
      go a b (inr t) = inr (inr t)

  standing_order_from : (taken : ℕ → Type 0) (xs : List ℕ) → StandingFrom taken xs → OrderFrom member before taken xs
  standing_order_from taken [] s = λ x m. elim (s.all_members x m) [ inl h ↦ absurd h | inr t ↦ t ]
  standing_order_from taken (x ∷ xs) s = (stands_ready s, standing_order_from (Plus x taken) xs (stands_rest s))

  pub standing_is_order : (xs : List ℕ) → Standing xs → Order member before xs
  standing_is_order xs s = standing_order_from None xs (record {
    none_twice = s.none_twice;
    none_taken = λ x h t. t;
    all_members = λ x m. inl (s.all_members x m);
    only_members = s.only_members;
    keeps_before = λ a b m h c. inl (s.keeps_before a b m (s.only_members b h) c);
  })
