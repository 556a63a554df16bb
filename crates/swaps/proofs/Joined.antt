-- Any two orders of the same members are joined by exchanges of neighbours, each list on the way an order.
-- Assumes nothing.
use Prim.Native.Nat.{ℕ}
use native.Mathlib.Decide.{ℕ_discrete}
use mathlib.Core.Path.{◌≡◌, refl, sym, ap}
use mathlib.Core.Logic.{◌⊎◌, inl, inr, ◌≢◌}
use mathlib.Core.List.{List, [], ◌∷◌, ◌++◌, map}
use borrow.Author.Tests.{eq-eqb, ne_eqb}
use Rattle.orders.specs.Orders.{In, None, Plus, Ready, OrderFrom, Order}
use Rattle.orders.proofs.Members.{TakenBy, order_takes_all}
use Rattle.orders.proofs.Grown.{Same, plus_same, ready_same}
use Rattle.swaps.specs.Swaps.{Exchange, here, later, Exchanged, AllOrders, without, each, bringing, chain}

-- ---- chains put together

exchanged_then : (xs : List ℕ) (ls : List (List ℕ)) (ys : List ℕ) (bs : List (List ℕ)) (zs : List ℕ) → Exchanged xs ls ys → Exchanged ys bs zs → Exchanged xs (ls ++ bs) zs
exchanged_then xs [] ys bs zs e f = rw e f
exchanged_then xs (a ∷ ls) ys bs zs (s, e) f = (s, exchanged_then a ls ys bs zs e f)

exchanged-each : (x : ℕ) (xs : List ℕ) (ls : List (List ℕ)) (ys : List ℕ) → Exchanged xs ls ys → Exchanged (x ∷ xs) (each x ls) (x ∷ ys)
exchanged-each x xs [] ys e = rw e
exchanged-each x xs (a ∷ ls) ys (s, e) = (later s, exchanged-each x a ls ys e)

without_first : (y : ℕ) (rest : List ℕ) → without y (y ∷ rest) ≡ rest
unfolding without
without_first y rest = rw (eq-eqb y y refl)

without_other : (y x : ℕ) (rest : List ℕ) → x ≢ y → without y (x ∷ rest) ≡ x ∷ without y rest
unfolding without
without_other y x rest d = rw (ne_eqb x y d)

-- whatever the list, bringing a number of it to the front goes by exchanges
brought : (y : ℕ) (xs : List ℕ) → In y xs → Exchanged xs (bringing y xs) (y ∷ without y xs)
unfolding bringing without
brought y [] h = absurd h
brought y (x ∷ rest) h = go (ℕ_discrete x y) h (brought y rest)
  where
    go : Dec (x ≡ y) → In y (x ∷ rest) → (In y rest → Exchanged rest (bringing y rest) (y ∷ without y rest))
        → Exchanged (x ∷ rest) (bringing y (x ∷ rest)) (y ∷ without y (x ∷ rest))
    go (yes e) h on = rw (eq-eqb x y e) (ap (λ (z : ℕ). z ∷ rest) e)
    go (no d) (inl e) on = absurd (d (sym e))
    go (no d) (inr h) on =
        rw (ne_eqb x y d)
        (exchanged_then (x ∷ rest) (each x (bringing y rest)) (x ∷ y ∷ without y rest) ((y ∷ x ∷ without y rest) ∷ []) (y ∷ x ∷ without y rest)
        (exchanged-each x rest (bringing y rest) (y ∷ without y rest) (on h)) (here, refl))

module _ (member : ℕ → Type 0) (before : ℕ → ℕ → Type 0) where
  orders_then :
      (taken : ℕ → Type 0) (ls bs : List (List ℕ)) → AllOrders member before taken ls → AllOrders member before taken bs
      → AllOrders member before taken (ls ++ bs)
  orders_then taken [] bs a b = b
  orders_then taken (x ∷ ls) bs (o, a) b = (o, orders_then taken ls bs a b)

  orders_each :
      (taken : ℕ → Type 0) (x : ℕ) (ls : List (List ℕ)) → Ready member before taken x → AllOrders member before (Plus x taken) ls
      → AllOrders member before taken (each x ls)
  orders_each taken x [] r a = tt
  orders_each taken x (l ∷ ls) r (o, a) = ((r, o), orders_each taken x ls r a)

  -- an order asks only what is taken
  order_same : {P Q : ℕ → Type 0} → Same P Q → (xs : List ℕ) → OrderFrom member before P xs → OrderFrom member before Q xs
  order_same same [] o = λ x m. same.there x (o x m)
  order_same same (x ∷ xs) (r, o) = (ready_same member before same r, order_same (plus_same x same) xs o)

  -- ---- a ready member brought to the front

  -- a member that is ready is ready still when another was taken
  ready_later : (taken : ℕ → Type 0) (x y : ℕ) → x ≢ y → Ready member before taken y → Ready member before (Plus x taken) y
  ready_later taken x y d r =
      record {
        is_member = r.is_member;
        not_taken = λ h. elim h [ inl e ↦ d (sym e) | inr t ↦ r.not_taken t ];
        all_before = λ z m b. inr (r.all_before z m b);
      }

  either_first : (taken : ℕ → Type 0) (x y : ℕ) → Same (Plus y (Plus x taken)) (Plus x (Plus y taken))
  either_first taken x y = record { there = turned y x; back = turned x y }
    where
      turned : (a b z : ℕ) → Plus a (Plus b taken) z → Plus b (Plus a taken) z
      turned a b z (inl e) = inr (inl e)
      turned a b z (inr (inl e)) = inl e
      turned a b z (inr (inr t)) = inr (inr t)

  pub front_order :
      (taken : ℕ → Type 0) (y : ℕ) (xs : List ℕ) → OrderFrom member before taken xs → Ready member before taken y → In y xs
      → OrderFrom member before (Plus y taken) (without y xs)
  unfolding without
  front_order taken y [] o r h = absurd h
  front_order taken y (x ∷ rest) (q, o) r h = go (ℕ_discrete x y) h (λ d g. front_order (Plus x taken) y rest o (ready_later taken x y d r) g)
    where
      go : Dec (x ≡ y) → In y (x ∷ rest) → (x ≢ y → In y rest → OrderFrom member before (Plus y (Plus x taken)) (without y rest))
          → OrderFrom member before (Plus y taken) (without y (x ∷ rest))
      go (yes e) h on = rw (eq-eqb x y e) (rw e at o)
      go (no d) (inl e) on = absurd (d (sym e))
      go (no d) (inr h) on =
          rw (ne_eqb x y d) (
            ready_later taken y x (λ e. d (sym e)) q,
            order_same (either_first taken x y) (without y rest) (on d h),
          )

  brought_orders :
      (taken : ℕ → Type 0) (y : ℕ) (xs : List ℕ) → OrderFrom member before taken xs → Ready member before taken y → In y xs
      → AllOrders member before taken (bringing y xs)
  unfolding bringing without
  brought_orders taken y [] o r h = tt
  brought_orders taken y (x ∷ rest) (q, o) r h =
      go (ℕ_discrete x y) h (λ d g. brought_orders (Plus x taken) y rest o (ready_later taken x y d r) g)
      (front_order taken y (x ∷ rest) (q, o) r h)
    where
      go : Dec (x ≡ y) → In y (x ∷ rest) → (x ≢ y → In y rest → AllOrders member before (Plus x taken) (bringing y rest))
          → OrderFrom member before (Plus y taken) (without y (x ∷ rest)) → AllOrders member before taken (bringing y (x ∷ rest))
      go (yes e) h on front = rw (eq-eqb x y e) tt
      go (no d) (inl e) on front = absurd (d (sym e))
      go (no d) (inr h) on front =
          rw (ne_eqb x y d)
          (orders_then taken (each x (bringing y rest)) ((y ∷ x ∷ without y rest) ∷ []) (orders_each taken x (bringing y rest) q (on d h))
          ((r, rw (ne_eqb x y d) at front), tt))

  -- ---- the theorem

  pub in_order : (taken : ℕ → Type 0) (y : ℕ) (xs : List ℕ) → OrderFrom member before taken xs → Ready member before taken y → In y xs
  in_order taken y xs o r = go (order_takes_all member before taken xs o y r.is_member)
    where
      go : TakenBy taken xs y → In y xs
      go (inl h) = h
      go (inr t) = absurd (r.not_taken t)

  pub none_left : (taken : ℕ → Type 0) (xs : List ℕ) → OrderFrom member before taken xs → ((x : ℕ) → member x → taken x) → xs ≡ []
  none_left taken [] o all = refl
  none_left taken (x ∷ xs) (r, o) all = absurd (r.not_taken (all x r.is_member))

  joined_from :
      (taken : ℕ → Type 0) (xs ys : List ℕ) → OrderFrom member before taken xs → OrderFrom member before taken ys
      → Exchanged xs (chain xs ys) ys × AllOrders member before taken (chain xs ys)
  unfolding chain
  joined_from taken xs [] o p = (none_left taken xs o p, tt)
  joined_from taken xs (y ∷ ys) o (r, p) =
      let h = in_order taken y xs o r in
      let (e, a) = joined_from (Plus y taken) (without y xs) ys (front_order taken y xs o r h) p in (
        exchanged_then xs (bringing y xs) (y ∷ without y xs) (each y (chain (without y xs) ys)) (y ∷ ys) (brought y xs h)
            (exchanged-each y (without y xs) (chain (without y xs) ys) ys e),
        orders_then taken (bringing y xs) (each y (chain (without y xs) ys)) (brought_orders taken y xs o r h)
            (orders_each taken y (chain (without y xs) ys) r a),
      )

  -- any two orders are joined by the chain, each list of it an order
  pub orders_joined :
      (xs ys : List ℕ) → Order member before xs → Order member before ys
      → Exchanged xs (chain xs ys) ys × AllOrders member before None (chain xs ys)
  orders_joined = joined_from None
