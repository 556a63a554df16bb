-- The first number that a property fails of, and a search that names it.
-- Assumes nothing.
use mathlib.Core.Path.{◌≡◌, refl, ap, ◌∙◌}
use mathlib.Core.Bool.{Bool, true, false}
use Prim.Native.Nat.{ℕ, zero, suc, ◌<◌}
use native.Mathlib.Omega.{arith}
use native.Mathlib.Decide.{dec_lt}
use Rattle.plain.specs.Choose.{pick}
use Rattle.runs.specs.Run.{Failing, none, fails}

-- k lies below n, P holds of all that lie below k, and fails of k
pub record First (P : ℕ → Type 0) (n k : ℕ) : Type 0 where
  pub there : k < n
  pub before : (j : ℕ) → j < k → P j
  pub breaks : P k → ⊥

-- a search below n found nothing, or the first, and said its name
abbrev pub Found : (ℕ → Type 0) → ℕ → (ℕ → ℕ) → Failing → Type 0
Found P n name none = (j : ℕ) → j < n → P j
Found P n name (fails v) = (k : ℕ) × First P n k × (v ≡ name k)

pub first_unique : {P : ℕ → Type 0} {n k l : ℕ} → First P n k → First P n l → k ≡ l
first_unique {P} {n} {k} {l} f g = from (dec_lt k l) (dec_lt l k)
  where
    from : Dec (k < l) → Dec (l < k) → k ≡ l
    from (yes h) d = absurd (f.breaks (g.before k h))
    from (no h) (yes i) = absurd (g.breaks (f.before l i))
    from (no h) (no i) = omega arith

each_below : (P : ℕ → Type 0) (n : ℕ) → P 0 → ((j : ℕ) → j < n → P (suc j)) → (j : ℕ) → j < suc n → P j
each_below P n p f zero h = p
each_below P n p f (suc j) h = f j (omega arith)

-- a search that looks at number 0 before the others
pub found_more :
    (P : ℕ → Type 0) (n : ℕ) (name : ℕ → ℕ) (b : Bool) (f : Failing)
    → (b ≡ true → P 0) → (b ≡ false → P 0 → ⊥)
    → Found (λ j. P (suc j)) n (λ j. name (suc j)) f → Found P (suc n) name (pick b f (fails (name 0)))
found_more P n name false f p o found = (0, record { there = omega arith; before = λ j h. absurd (omega arith); breaks = o refl }, refl)
found_more P n name true none p o found = each_below P n (p refl) found
found_more P n name true (fails v) p o (k, first, e) =
    (suc k, record { there = omega (arith, first.there); before = each_below P k (p refl) first.before; breaks = first.breaks }, e)

module _ (P : ℕ → Type 0) (n : ℕ) (name : ℕ → ℕ) where
  pub finds_none : (f : Failing) → Found P n name f → ((j : ℕ) → j < n → P j) → f ≡ none
  finds_none none found all = refl
  finds_none (fails v) (k, first, e) all = absurd (first.breaks (all k first.there))

  pub finds_first : (f : Failing) (k : ℕ) → Found P n name f → First P n k → f ≡ fails (name k)
  finds_first none k found first = absurd (first.breaks (found k first.there))
  finds_first (fails v) k (l, other, e) first = ap fails (e ∙ ap name (first_unique other first))
