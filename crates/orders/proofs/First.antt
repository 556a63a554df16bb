-- Taking the least rank first gives the first of all orders in dictionary order of ranks, and that list alone.
-- Assumes nothing.
use mathlib.Core.Path.{◌≡◌, refl, ◌∙◌}
use mathlib.Core.Logic.{inl, inr}
use mathlib.Core.List.{List, [], ◌∷◌}
use Prim.Native.Nat.{ℕ, ◌<◌}
use native.Mathlib.Omega.{arith}
use native.Mathlib.Decide.{dec_lt}
use lib.ListN.{get_or}
use Rattle.ranks.specs.Ranks.{RankList}
use Rattle.ranks.proofs.Placed.{rank_list_apart}
use Rattle.orders.specs.Orders.{In, None, Plus, Takes, OrderFrom, Order, Greedy, First}
use Rattle.orders.proofs.Lists.{in_decided}
use Rattle.orders.proofs.Members.{all_taken_is_order}
use Rattle.orders.proofs.Grown.{by_all, NoneReady, none_ready_same, greedy_so_far, greedy_so_far_takes, greedy_none_ready}

-- ---- dictionary order

pub first_self : (rank : ℕ → ℕ) (xs : List ℕ) → First rank xs xs
first_self rank [] = tt
first_self rank (x ∷ xs) = inr (refl, first_self rank xs)

pub first_trans : (rank : ℕ → ℕ) (xs ys zs : List ℕ) → First rank xs ys → First rank ys zs → First rank xs zs
first_trans rank [] ys zs f g = tt
first_trans rank (x ∷ xs) [] zs f g = absurd f
first_trans rank (x ∷ xs) (y ∷ ys) [] f g = absurd g
first_trans rank (x ∷ xs) (y ∷ ys) (z ∷ zs) (inl l) (inl m) = inl (omega arith)
first_trans rank (x ∷ xs) (y ∷ ys) (z ∷ zs) (inl l) (inr g) = inl (omega arith)
first_trans rank (x ∷ xs) (y ∷ ys) (z ∷ zs) (inr f) (inl m) = inl (omega arith)
first_trans rank (x ∷ xs) (y ∷ ys) (z ∷ zs) (inr f) (inr g) = inr (f.0 ∙ g.0, first_trans rank xs ys zs f.1 g.1)

-- no two members have the same rank
abbrev pub Apart : (ℕ → Type 0) → (ℕ → ℕ) → Type 0
Apart member rank = (x y : ℕ) → member x → member y → rank x ≡ rank y → x ≡ y

pub rank_list_tells_apart :
    (member : ℕ → Type 0) (n : ℕ) {l : List ℕ} → ((x : ℕ) → member x → x < n) → RankList n l → Apart member (λ i. get_or l i 0)
rank_list_tells_apart member n small r x y m k e = rank_list_apart r x y (small x m) (small y k) e

module _ (member : ℕ → Type 0) (rank : ℕ → ℕ) (apart : Apart member rank) where
  pub first_antisym :
      (xs ys : List ℕ) → ((x : ℕ) → In x xs → member x) → ((y : ℕ) → In y ys → member y)
      → First rank xs ys → First rank ys xs → xs ≡ ys
  first_antisym [] [] m n f g = refl
  first_antisym [] (y ∷ ys) m n f g = absurd g
  first_antisym (x ∷ xs) [] m n f g = absurd f
  first_antisym (x ∷ xs) (y ∷ ys) m n (inl l) (inl k) = absurd (omega arith)
  first_antisym (x ∷ xs) (y ∷ ys) m n (inl l) (inr g) = absurd (omega arith)
  first_antisym (x ∷ xs) (y ∷ ys) m n (inr f) (inl k) = absurd (omega arith)
  first_antisym (x ∷ xs) (y ∷ ys) m n (inr f) (inr g) =
      let e = apart x y (m x (inl refl)) (n y (inl refl)) f.0 in
      let t = first_antisym xs ys (λ x h. m x (inr h)) (λ y h. n y (inr h)) f.1 g.1 in
      cc

-- ---- where there is an order at all, none is ready only when all are taken

module _ (member : ℕ → Type 0) (before : ℕ → ℕ → Type 0) where
  none_ready_none_left :
      (taken : ℕ → Type 0) → ((x : ℕ) → Dec (taken x)) → NoneReady member before taken
      → (earlier : ℕ → Type 0) (ys : List ℕ) → ((x : ℕ) → earlier x → taken x) → OrderFrom member before earlier ys
      → (x : ℕ) → member x → taken x
  none_ready_none_left taken dec none earlier [] f o = λ x m. f x (o x m)
  none_ready_none_left taken dec none earlier (y ∷ ys) f o =
      none_ready_none_left taken dec none (Plus y earlier) ys (λ x h. elim h [ inl e ↦ rw e (head (dec y)) | inr k ↦ f x k ]) o.1
    where
      head : Dec (taken y) → taken y
      head (yes t) = t
      head (no n) =
          absurd (none y (record {
            is_member = o.0.is_member;
            not_taken = n;
            all_before = λ z m b. f z (o.0.all_before z m b);
          }))

  pub stopped_is_order :
      (xs ys : List ℕ) → Takes member before None xs → NoneReady member before (λ y. In y xs) → Order member before ys
      → Order member before xs
  stopped_is_order xs ys t none o =
      all_taken_is_order member before xs t
      (none_ready_none_left (λ y. In y xs) (λ y. in_decided y xs) none None ys (λ x h. absurd h) o)

  pub greedy_is_order :
      (rank : ℕ → ℕ) (xs ys : List ℕ) → Greedy member before rank None xs → Order member before ys → Order member before xs
  greedy_is_order rank xs ys g o =
      stopped_is_order xs ys
      (greedy_so_far_takes member before rank None xs (greedy_so_far member before rank None xs g))
      (none_ready_same member before (by_all xs) (greedy_none_ready member before rank None xs g)) o

-- ---- the least rank first

module _ (member : ℕ → Type 0) (before : ℕ → ℕ → Type 0) (rank : ℕ → ℕ) (apart : Apart member rank) where
  pub greedy_first :
      (taken : ℕ → Type 0) (xs ys : List ℕ) → Greedy member before rank taken xs → OrderFrom member before taken ys → First rank xs ys
  greedy_first taken [] ys g o = tt
  greedy_first taken (x ∷ xs) [] g o = absurd (g.0.not_taken (o x g.0.is_member))
  greedy_first taken (x ∷ xs) (y ∷ ys) g o = go (dec_lt (rank x) (rank y)) (λ p. greedy_first (Plus x taken) xs ys g.2 p)
    where
      go : Dec (rank x < rank y) → (OrderFrom member before (Plus x taken) ys → First rank xs ys) → First rank (x ∷ xs) (y ∷ ys)
      go (yes l) rest = inl l
      go (no l) rest =
          let s : rank x ≡ rank y = omega (arith, g.1 y o.0) in
          let e = apart x y g.0.is_member o.0.is_member s in
          inr (s, rest (rw e o.1))

  pub greedy_determined :
      (taken : ℕ → Type 0) (xs ys : List ℕ) → Greedy member before rank taken xs → Greedy member before rank taken ys → xs ≡ ys
  greedy_determined taken [] [] g h = refl
  greedy_determined taken [] (y ∷ ys) g h = absurd (g y h.0)
  greedy_determined taken (x ∷ xs) [] g h = absurd (h x g.0)
  greedy_determined taken (x ∷ xs) (y ∷ ys) g h =
      let e = apart x y g.0.is_member h.0.is_member (omega (arith, g.1 y h.0, h.1 x g.0)) in
      let t = greedy_determined (Plus x taken) xs ys g.2 (rw e h.2) in
      cc
