-- Lists that take ready members depend on what is taken alone, and are put together: one after another, and by one more at the end.
-- Assumes nothing.
use mathlib.Core.Logic.{◌⊎◌, inl, inr}
use mathlib.Core.List.{List, [], ◌∷◌, ◌++◌}
use Prim.Native.Nat.{ℕ, ◌≤◌}
use Rattle.orders.specs.Orders.{In, None, Plus, Ready, Takes, Greedy}
use Rattle.orders.proofs.Members.{TakenBy, first_joined, first_parted}

-- two ways to say which numbers are taken
pub record Same (P Q : ℕ → Type 0) : Type 0 where
  pub there : (x : ℕ) → P x → Q x
  pub back : (x : ℕ) → Q x → P x

pub same_turned : {P Q : ℕ → Type 0} → Same P Q → Same Q P
same_turned s = record { there = s.back; back = s.there }

plus_within : {A B C : Type 0} → (B → C) → A ⊎ B → A ⊎ C
plus_within f (inl e) = inl e
plus_within f (inr h) = inr (f h)

pub plus_same : {P Q : ℕ → Type 0} (x : ℕ) → Same P Q → Same (Plus x P) (Plus x Q)
plus_same x s = record { there = λ y h. plus_within (s.there y) h; back = λ y h. plus_within (s.back y) h }

-- ⊎ with nothing
right_of : {A : Type 0} → ⊥ ⊎ A → A
right_of (inl h) = absurd h
right_of (inr h) = h

left_of : {A : Type 0} → A ⊎ ⊥ → A
left_of (inl h) = h
left_of (inr h) = absurd h

pub by_nothing : (taken : ℕ → Type 0) → Same (TakenBy taken []) taken
by_nothing taken = record { there = λ y h. right_of h; back = λ y h. inr h }

pub by_first : (taken : ℕ → Type 0) (x : ℕ) (xs : List ℕ) → Same (TakenBy (Plus x taken) xs) (TakenBy taken (x ∷ xs))
by_first taken x xs = record { there = λ y h. first_joined h; back = λ y h. first_parted h }

pub by_all : (xs : List ℕ) → Same (TakenBy None xs) (λ y. In y xs)
by_all xs = record { there = λ y h. left_of h; back = λ y h. inl h }

module _ (member : ℕ → Type 0) (before : ℕ → ℕ → Type 0) where
  abbrev pub NoneReady : (ℕ → Type 0) → Type 0
  NoneReady taken = (y : ℕ) → Ready member before taken y → ⊥

  abbrev pub Least : (ℕ → ℕ) → (ℕ → Type 0) → ℕ → Type 0
  Least rank taken x = (y : ℕ) → Ready member before taken y → rank x ≤ rank y

  -- each taken member has the least rank among those that were ready; no claim at the end
  abbrev pub GreedySoFar : (ℕ → ℕ) → (ℕ → Type 0) → List ℕ → Type 0
  GreedySoFar rank taken [] = Unit {0}
  GreedySoFar rank taken (x ∷ rest) = Ready member before taken x × Least rank taken x × GreedySoFar rank (Plus x taken) rest

  -- ---- what is taken alone decides

  pub ready_same : {P Q : ℕ → Type 0} {x : ℕ} → Same P Q → Ready member before P x → Ready member before Q x
  ready_same {x = x} s r = record {
    is_member = r.is_member;
    not_taken = λ h. r.not_taken (s.back x h);
    all_before = λ y m b. s.there y (r.all_before y m b);
  }

  pub none_ready_same : {P Q : ℕ → Type 0} → Same P Q → NoneReady P → NoneReady Q
  none_ready_same s none y r = none y (ready_same (same_turned s) r)

  pub least_same : (rank : ℕ → ℕ) {P Q : ℕ → Type 0} {x : ℕ} → Same P Q → Least rank P x → Least rank Q x
  least_same rank s least y r = least y (ready_same (same_turned s) r)

  pub greedy_so_far_same : (rank : ℕ → ℕ) {P Q : ℕ → Type 0} (xs : List ℕ) → Same P Q → GreedySoFar rank P xs → GreedySoFar rank Q xs
  greedy_so_far_same rank [] s g = tt
  greedy_so_far_same rank (x ∷ xs) s g =
      (ready_same s g.0, least_same rank s g.1, greedy_so_far_same rank xs (plus_same x s) g.2)

  -- ---- one list after another

  pub greedy_so_far_joined :
      (rank : ℕ → ℕ) (taken : ℕ → Type 0) (xs ys : List ℕ)
      → GreedySoFar rank taken xs → GreedySoFar rank (TakenBy taken xs) ys → GreedySoFar rank taken (xs ++ ys)
  greedy_so_far_joined rank taken [] ys g u = greedy_so_far_same rank ys (by_nothing taken) u
  greedy_so_far_joined rank taken (x ∷ xs) ys g u =
      (g.0, g.1, greedy_so_far_joined rank (Plus x taken) xs ys g.2 (greedy_so_far_same rank ys (same_turned (by_first taken x xs)) u))

  pub greedy_so_far_takes : (rank : ℕ → ℕ) (taken : ℕ → Type 0) (xs : List ℕ) → GreedySoFar rank taken xs → Takes member before taken xs
  greedy_so_far_takes rank taken [] g = tt
  greedy_so_far_takes rank taken (x ∷ xs) g = (g.0, greedy_so_far_takes rank (Plus x taken) xs g.2)

  -- ---- one more at the end, as a loop takes them

  pub greedy_one_more :
      (rank : ℕ → ℕ) (xs : List ℕ) (x : ℕ)
      → GreedySoFar rank None xs → Ready member before (λ y. In y xs) x → Least rank (λ y. In y xs) x
      → GreedySoFar rank None (xs ++ (x ∷ []))
  greedy_one_more rank xs x g r least =
      let s = same_turned (by_all xs) in
      greedy_so_far_joined rank None xs (x ∷ []) g (ready_same s r, least_same rank s least, tt)

  -- .. until none is ready

  pub greedy_ended_from :
      (rank : ℕ → ℕ) (taken : ℕ → Type 0) (xs : List ℕ)
      → GreedySoFar rank taken xs → NoneReady (TakenBy taken xs) → Greedy member before rank taken xs
  greedy_ended_from rank taken [] g none = none_ready_same (by_nothing taken) none
  greedy_ended_from rank taken (x ∷ xs) g none =
      (g.0, g.1, greedy_ended_from rank (Plus x taken) xs g.2 (none_ready_same (same_turned (by_first taken x xs)) none))

  pub greedy_ended :
      (rank : ℕ → ℕ) (xs : List ℕ) → GreedySoFar rank None xs → NoneReady (λ y. In y xs) → Greedy member before rank None xs
  greedy_ended rank xs g none = greedy_ended_from rank None xs g (none_ready_same (same_turned (by_all xs)) none)

  -- .. and back
  pub greedy_so_far : (rank : ℕ → ℕ) (taken : ℕ → Type 0) (xs : List ℕ) → Greedy member before rank taken xs → GreedySoFar rank taken xs
  greedy_so_far rank taken [] g = tt
  greedy_so_far rank taken (x ∷ xs) g = (g.0, g.1, greedy_so_far rank (Plus x taken) xs g.2)

  pub greedy_none_ready : (rank : ℕ → ℕ) (taken : ℕ → Type 0) (xs : List ℕ) → Greedy member before rank taken xs → NoneReady (TakenBy taken xs)
  greedy_none_ready rank taken [] g = none_ready_same (same_turned (by_nothing taken)) g
  greedy_none_ready rank taken (x ∷ xs) g = none_ready_same (by_first taken x xs) (greedy_none_ready rank (Plus x taken) xs g.2)
