-- Where a list of actions leads: to one state, by way of a middle one for two lists joined, and always to one of the same length.
-- Assumes nothing.
use mathlib.Core.Path.{◌≡◌, refl, sym, ◌∙◌}
use mathlib.Core.Logic.{◌↔◌}
use mathlib.Core.List.{List, [], ◌∷◌, ◌++◌}
use Prim.Native.Nat.{ℕ}
use lib.ListN.{length}
use Rattle.study.specs.Study.{Study, action_at}
use Rattle.plans.specs.Plans.{State, after, Runs}
use Rattle.plans.proofs.States.{after-length}

pub runs_determined : (t : Study) (s : State) (list : List ℕ) (e e' : State) → Runs t s list e → Runs t s list e' → e ≡ e'
runs_determined t s [] e e' r r' = sym r ∙ r'
runs_determined t s (i ∷ rest) e e' (u, may, r) (u', may', r') = runs_determined t (after s (action_at t.actions i)) rest e e' r r'

pub runs_length : (t : Study) (s : State) (list : List ℕ) (e : State) → Runs t s list e → length e ≡ length s
runs_length t s [] e r = rw r
runs_length t s (i ∷ rest) e (u, may, r) =
    let a = action_at t.actions i in
    runs_length t (after s a) rest e r ∙ after-length s a

pub runs_joined : (t : Study) (s : State) (xs : List ℕ) (m : State) (ys : List ℕ) (e : State) → Runs t s xs m → Runs t m ys e → Runs t s (xs ++ ys) e
runs_joined t s [] m ys e r q = rw r q
runs_joined t s (i ∷ xs) m ys e (u, may, r) q = (u, may, runs_joined t (after s (action_at t.actions i)) xs m ys e r q)

pub runs_parted : (t : Study) (s : State) (xs ys : List ℕ) (e : State) → Runs t s (xs ++ ys) e → (m : State) × Runs t s xs m × Runs t m ys e
runs_parted t s [] ys e r = (s, refl, r)
runs_parted t s (i ∷ xs) ys e (u, may, r) =
    let (middle, p, q) = runs_parted t (after s (action_at t.actions i)) xs ys e r in
    (middle, (u, may, p), q)

pub runs_append : (t : Study) (s : State) (xs ys : List ℕ) (e : State) → Runs t s (xs ++ ys) e ↔ ((m : State) × Runs t s xs m × Runs t m ys e)
runs_append t s xs ys e = (runs_parted t s xs ys e, λ (m, r, q). runs_joined t s xs m ys e r q)
