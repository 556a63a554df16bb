-- Orders of one relation are orders of each whose pairs it chains; there is an order where there is no ring; and where no chain leads from one to another, some order has the other before the one.
-- Assumes nothing.
use mathlib.Core.Path.{◌≡◌, refl, sym, ◌∙◌}
use mathlib.Core.Logic.{◌⊎◌, inl, inr, ◌≢◌}
use mathlib.Core.List.{List, [], ◌∷◌}
use Prim.Native.Nat.{ℕ, zero, suc, ◌+◌, ◌≤◌}
use native.Mathlib.Omega.{arith}
use native.Mathlib.Decide.{ℕ_discrete}
use lib.ListN.{length}
use Rattle.orders.specs.Orders.{In, Distinct, StandsBefore, None, Ready, Order, Chain, one, more, OnRing, Greedy}
use Rattle.orders.proofs.Lists.{in_decided, distinct_fills}
use Rattle.orders.proofs.Grown.{by_all, none_ready_same, greedy_so_far, greedy_so_far_takes, greedy_none_ready}
use Rattle.orders.proofs.Stuck.{done_or_stuck}
use Rattle.orders.proofs.Standing.{order_stands, standing_is_order}
use Rattle.orders.proofs.Chains.{chain-stands, chain_joined}

-- ---- an order of one relation is one of each whose pairs it chains

pub chained_order :
    {member : ℕ → Type 0} {less greater : ℕ → ℕ → Type 0}
    → ((x y : ℕ) → member x → member y → less x y → Chain member greater x y)
    → (xs : List ℕ) → Order member greater xs → Order member less xs
chained_order {member} {less} {greater} chained xs o =
    let s = order_stands member greater xs o in
    standing_is_order member less xs (record {
      none_twice = s.none_twice;
      all_members = s.all_members;
      only_members = s.only_members;
      keeps_before = λ a b m n c. chain-stands xs s.none_twice s.keeps_before (chained a b m n c);
    })

-- ---- without a ring there is an order

-- one of a list has a property, or none has
pub some_or_none : (P : ℕ → Type 0) → ((x : ℕ) → Dec (P x)) → (xs : List ℕ) → ((x : ℕ) × (In x xs × P x)) ⊎ ((x : ℕ) → In x xs → P x → ⊥)
some_or_none P decided [] = inr (λ x h. absurd h)
some_or_none P decided (y ∷ ys) = go (decided y) (some_or_none P decided ys)
  where
    go : Dec (P y) → ((x : ℕ) × (In x ys × P x)) ⊎ ((x : ℕ) → In x ys → P x → ⊥)
        → ((x : ℕ) × (In x (y ∷ ys) × P x)) ⊎ ((x : ℕ) → In x (y ∷ ys) → P x → ⊥)
    go (yes p) _ = inl (y, (inl refl, p))
    go (no n) (inl f) = inl (f.0, (inr f.1.0, f.1.1))
    go (no n) (inr f) = inr λ x h p. elim h [ inl e ↦ n (rw e at p) | inr g ↦ f x g p ]

module _
    (member : ℕ → Type 0) (before : ℕ → ℕ → Type 0)
    (all : List ℕ) (in_all : (x : ℕ) → member x → In x all) (only : (x : ℕ) → In x all → member x)
    (decided : (x y : ℕ) → Dec (before x y)) where
  -- what keeps a member from being ready
  abbrev Waits : List ℕ → ℕ → ℕ → Type 0
  Waits taken x y = before y x × (In y taken → ⊥)

  waits_decided : (taken : List ℕ) (x y : ℕ) → Dec (Waits taken x y)
  waits_decided taken x y = go (decided y x) (in_decided y taken)
    where
      go : Dec (before y x) → Dec (In y taken) → Dec (Waits taken x y)
      go (no n) _ = no (λ w. n w.0)
      go (yes b) (yes h) = no (λ w. w.1 h)
      go (yes b) (no n) = yes (b, n)

  ready_decided : (taken : List ℕ) (x : ℕ) → Dec (Ready member before (λ y. In y taken) x)
  ready_decided taken x = go (in_decided x all) (in_decided x taken) (some_or_none (Waits taken x) (waits_decided taken x) all)
    where
      go : Dec (In x all) → Dec (In x taken)
          → ((y : ℕ) × (In y all × Waits taken x y)) ⊎ ((y : ℕ) → In y all → Waits taken x y → ⊥)
          → Dec (Ready member before (λ y. In y taken) x)
      go (no n) _ _ = no (λ r. n (in_all x r.is_member))
      go (yes _) (yes h) _ = no (λ r. r.not_taken h)
      go (yes _) (no _) (inl (y, (h, (b, n)))) = no (λ r. n (r.all_before y (only y h) b))
      go (yes h) (no n) (inr f) = yes (record {
        is_member = only x h;
        not_taken = n;
        all_before = λ y m b. elim (in_decided y taken) [ yes g ↦ g | no g ↦ absurd (f y (in_all y m) (b, g)) ];
      })

  -- one ready member after another, until none is
  taken_on :
      (fuel : ℕ) (taken : List ℕ) → Distinct taken → ((x : ℕ) → In x taken → In x all) → length all ≤ fuel + length taken
      → (xs : List ℕ) × Greedy member before (λ _. 0) (λ y. In y taken) xs
  taken_on zero taken d within h = ([], λ y r. r.not_taken (distinct_fills taken all d within (omega arith) y (in_all y r.is_member)))
  taken_on (suc fuel) taken d within h =
      go (some_or_none (Ready member before (λ y. In y taken)) (ready_decided taken) all)
      (λ x r. taken_on fuel (x ∷ taken) (r.not_taken, d) (λ y i. elim i [ inl e ↦ rw e (in_all x r.is_member) | inr g ↦ within y g ]) (omega arith))
    where
      go : ((x : ℕ) × (In x all × Ready member before (λ y. In y taken) x)) ⊎ ((x : ℕ) → In x all → Ready member before (λ y. In y taken) x → ⊥)
          → ((x : ℕ) → Ready member before (λ y. In y taken) x → (xs : List ℕ) × Greedy member before (λ _. 0) (λ y. In y (x ∷ taken)) xs)
          → (xs : List ℕ) × Greedy member before (λ _. 0) (λ y. In y taken) xs
      go (inl (x, (_, r))) on = let rest = on x r in (x ∷ rest.0, (r, λ y q. omega arith, rest.1))
      go (inr f) on = ([], λ y r. f y (in_all y r.is_member) r)

  pub order_or_ring : ((xs : List ℕ) × Order member before xs) ⊎ ((y : ℕ) × OnRing member before y)
  order_or_ring = go (taken_on (length all) [] tt (λ x h. absurd h) (omega arith))
    where
      go : (xs : List ℕ) × Greedy member before (λ _. 0) None xs → ((xs : List ℕ) × Order member before xs) ⊎ ((y : ℕ) × OnRing member before y)
      go (xs, g) =
          let takes = greedy_so_far_takes member before (λ _. 0) None xs (greedy_so_far member before (λ _. 0) None xs g) in
          let none = none_ready_same member before (by_all xs) (greedy_none_ready member before (λ _. 0) None xs g) in
          elim (done_or_stuck member before all in_all only decided xs takes none) [ inl o ↦ inl (xs, o) | inr r ↦ inr r ]

  pub order_without_ring : ((y : ℕ) → OnRing member before y → ⊥) → (xs : List ℕ) × Order member before xs
  order_without_ring none = elim order_or_ring [ inl o ↦ o | inr (y, r) ↦ absurd (none y r) ]

-- ---- two that no chain orders may stand the other way round

-- one more pair
abbrev With : (ℕ → ℕ → Type 0) → ℕ → ℕ → ℕ → ℕ → Type 0
With before u v x y = before x y ⊎ ((x ≡ u) × (y ≡ v))

with_decided : {before : ℕ → ℕ → Type 0} → ((x y : ℕ) → Dec (before x y)) → (u v x y : ℕ) → Dec (With before u v x y)
with_decided {before} decided u v x y = go (decided x y) (ℕ_discrete x u) (ℕ_discrete y v)
  where
    go : Dec (before x y) → Dec (x ≡ u) → Dec (y ≡ v) → Dec (With before u v x y)
    go (yes b) _ _ = yes (inl b)
    go (no n) (yes e) (yes f) = yes (inr (e, f))
    go (no n) (no d) _ = no λ h. elim h [ inl b ↦ n b | inr e ↦ d e.0 ]
    go (no n) (yes _) (no d) = no λ h. elim h [ inl b ↦ n b | inr e ↦ d e.1 ]

module _ (member : ℕ → Type 0) (before : ℕ → ℕ → Type 0) (u v : ℕ) where
  -- a chain, or one to u and one from v, where an end may be u or v itself
  abbrev Through : ℕ → ℕ → Type 0
  Through x y = Chain member before x y ⊎ (((x ≡ u) ⊎ Chain member before x u) × ((v ≡ y) ⊎ Chain member before v y))

  through : {x y : ℕ} → member v → Chain member (With before u v) x y → Through x y
  through mv (one m n (inl b)) = inl (one m n b)
  through mv (one m n (inr e)) = inr (inl e.0, inl (sym e.1))
  through {x} {y = z} mv (more {y = y} c n b) = go b (through mv c)
    where
      go : With before u v y z → Through x y → Through x z
      go (inl b) (inl d) = inl (more d n b)
      go (inl b) (inr (p, inl e)) = inr (p, inr (one mv n (rw e b)))
      go (inl b) (inr (p, inr d)) = inr (p, inr (more d n b))
      go (inr e) (inl d) = inr (inr (rw e.0 at d), inl (sym e.1))
      go (inr e) (inr (p, q)) = inr (p, inl (sym e.1))

  with_no_ring :
      member v → ((y : ℕ) → OnRing member before y → ⊥) → v ≢ u → (Chain member before v u → ⊥)
      → (x : ℕ) → OnRing member (With before u v) x → ⊥
  with_no_ring mv none apart unchained x c = go (through mv c)
    where
      go : Through x x → ⊥
      go (inl d) = none x d
      go (inr (inl e, inl f)) = apart (f ∙ e)
      go (inr (inl e, inr d)) = unchained (rw e at d)
      go (inr (inr d, inl f)) = unchained (rw f d)
      go (inr (inr c, inr d)) = unchained (chain_joined d c)

module _
    (member : ℕ → Type 0) (before : ℕ → ℕ → Type 0)
    (all : List ℕ) (in_all : (x : ℕ) → member x → In x all) (only : (x : ℕ) → In x all → member x)
    (decided : (x y : ℕ) → Dec (before x y)) (none : (y : ℕ) → OnRing member before y → ⊥) where
  pub order_other_way :
      (x y : ℕ) → member x → member y → x ≢ y → (Chain member before x y → ⊥)
      → (xs : List ℕ) × (Order member before xs × StandsBefore y x xs)
  order_other_way x y mx my apart unchained =
      let (xs, o) =
      order_without_ring member (With before y x) all in_all only (with_decided decided y x) (with_no_ring member before y x mx none apart unchained)
      in (
        xs,
        (
          chained_order (λ a b m n c. one m n (inl c)) xs o,
          (order_stands member (With before y x) xs o).keeps_before y x my mx (inr (refl, refl)),
        ),
      )
