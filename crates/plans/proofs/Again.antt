-- Values held before: in which states, and over two lists joined.
-- Assumes nothing.
use mathlib.Core.Path.{◌≡◌}
use mathlib.Core.Logic.{◌≢◌, ◌↔◌}
use mathlib.Core.List.{List, [], ◌∷◌, ◌++◌}
use Prim.Native.Nat.{ℕ, zero, suc, ◌<◌}
use native.Mathlib.Omega.{arith}
use native.Mathlib.Decide.{ℕ_discrete}
use lib.ListN.{length, get_or}
use Rattle.study.specs.Study.{Study, action_at}
use Rattle.plans.specs.Plans.{State, value_of, after, Runs, NeverHeld, NoneAgain}

-- the states left behind on the way through a list, the newest first
abbrev pub past_of : Study → List State → State → List ℕ → List State
past_of t past s [] = past
past_of t past s (i ∷ rest) = past_of t (s ∷ past) (after s (action_at t.actions i)) rest

pub none_again_joined :
    (t : Study) (past : List State) (s : State) (xs : List ℕ) (m : State) (ys : List ℕ) → Runs t s xs m
    → NoneAgain t past s xs → NoneAgain t (past_of t past s xs) m ys → NoneAgain t past s (xs ++ ys)
none_again_joined t past s [] m ys r n q = rw r q
none_again_joined t past s (i ∷ xs) m ys (u, may, r) (h, n) q = (h, none_again_joined t (s ∷ past) (after s (action_at t.actions i)) xs m ys r n q)

pub none_again_parted :
    (t : Study) (past : List State) (s : State) (xs : List ℕ) (m : State) (ys : List ℕ) → Runs t s xs m
    → NoneAgain t past s (xs ++ ys) → NoneAgain t past s xs × NoneAgain t (past_of t past s xs) m ys
none_again_parted t past s [] m ys r n = (tt, rw r at n)
none_again_parted t past s (i ∷ xs) m ys (u, may, r) (h, n) =
    let (p, q) = none_again_parted t (s ∷ past) (after s (action_at t.actions i)) xs m ys r n in
    ((h, p), q)

pub none_again_append :
    (t : Study) (past : List State) (s : State) (xs : List ℕ) (m : State) (ys : List ℕ) → Runs t s xs m
    → NoneAgain t past s (xs ++ ys) ↔ (NoneAgain t past s xs × NoneAgain t (past_of t past s xs) m ys)
none_again_append t past s xs m ys r = (none_again_parted t past s xs m ys r, λ (p, q). none_again_joined t past s xs m ys r p q)

-- a value was never held exactly if each state has another one
pub never_held_each : (past : List State) (v q : ℕ) → NeverHeld past v q ↔ ((j : ℕ) → j < length past → value_of (get_or past j []) v ≢ q)
never_held_each past v q = (each past, all past)
  where
    each : (past : List State) → NeverHeld past v q → (j : ℕ) → j < length past → value_of (get_or past j []) v ≢ q
    each [] n j b = absurd (omega arith)
    each (s ∷ past) (o, n) zero b = o
    each (s ∷ past) (o, n) (suc j) b = each past n j (omega arith)

    all : (past : List State) → ((j : ℕ) → j < length past → value_of (get_or past j []) v ≢ q) → NeverHeld past v q
    all [] f = tt
    all (s ∷ past) f = (f 0 (omega arith), all past (λ j b. f (suc j) (omega arith)))

-- .. and where that fails, one state has it
pub held_somewhere :
    (past : List State) (v q : ℕ) → (NeverHeld past v q → ⊥) ↔ ((j : ℕ) × (j < length past) × (value_of (get_or past j []) v ≡ q))
held_somewhere past v q = (find past, λ (j, b, e) n. (never_held_each past v q).0 n j b e)
  where
    find : (past : List State) → (NeverHeld past v q → ⊥) → (j : ℕ) × (j < length past) × (value_of (get_or past j []) v ≡ q)
    find [] n = absurd (n tt)
    find (s ∷ past) n = from (ℕ_discrete (value_of s v) q) (find past)
      where
        from :
            Dec (value_of s v ≡ q) → ((NeverHeld past v q → ⊥) → (j : ℕ) × (j < length past) × (value_of (get_or past j []) v ≡ q))
            → (j : ℕ) × (j < length (s ∷ past)) × (value_of (get_or (s ∷ past) j []) v ≡ q)
        from (yes e) f = (0, omega arith, e)
        from (no o) f = let (j, b, e) = f (λ m. n (o, m)) in (suc j, omega arith, e)
