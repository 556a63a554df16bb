-- Counting one entry more in a row, and what a row of the report is by the entries of its position.
-- Assumes nothing.
use mathlib.Core.Path.{◌≡◌, refl, sym, ap, ◌∙◌}
use mathlib.Core.List.{List, [], ◌∷◌}
use Prim.Native.Nat.{ℕ, zero, suc, ◌+◌, ◌≤◌, ◌<◌}
use native.Mathlib.Numerals.{add-one}
use native.Mathlib.Omega.{arith}
use native.Mathlib.Decide.{ℕ_discrete}
use lib.Dec.{eqb}
use lib.ListN.{length, get_or, take, set, replicate, length-set}
use lib.Seq.{get_or-set_same, get_or-set_other, take-suc, ext_get_or}
use borrow.Author.Tests.{eq-eqb, ne_eqb}
use Rattle.ranks.specs.Ranks.{one, count}
use Rattle.ranks.proofs.Laws.{count-append}
use Rattle.varied.specs.Figures.{standing, listed}
use Rattle.matching.specs.Kept.{plan_at}
use Rattle.tallying.specs.Tallied.{tallied}

-- ---- figures that are listed

pub length-listed : (f : ℕ → ℕ) (k n : ℕ) → length (listed f k n) ≡ n
unfolding listed
length-listed f k zero = refl
length-listed f k (suc n) = ap suc (length-listed f (suc k) n)

listed_at : (f : ℕ → ℕ) (k n i : ℕ) → i < n → get_or (listed f k n) i 0 ≡ f (k + i)
unfolding listed
listed_at f k zero i h = absurd (omega arith)
listed_at f k (suc n) zero h = ap f (omega arith)
listed_at f k (suc n) (suc i) h = listed_at f (suc k) n i (omega arith) ∙ ap f (omega arith)

listed_alike : (f g : ℕ → ℕ) → ((i : ℕ) → f i ≡ g i) → (k n : ℕ) → listed f k n ≡ listed g k n
unfolding listed
listed_alike f g e k zero = refl
listed_alike f g e k (suc n) = rw (e k, listed_alike f g e (suc k) n)

-- ---- the row after so many entries

tallied_at : (entries : List ℕ) (actions i : ℕ) → i < actions → get_or (tallied entries actions) i 0 ≡ count i entries
tallied_at entries actions i h = listed_at (λ i. count i entries) 0 actions i h ∙ ap (λ (n : ℕ). count n entries) (omega arith)

pub none_tallied : (actions : ℕ) → tallied [] actions ≡ replicate actions 0
unfolding listed
none_tallied actions = from 0 actions
  where
    from : (k n : ℕ) → listed (λ _. 0) k n ≡ replicate n 0
    from k zero = refl
    from k (suc n) = ap (λ (r : List ℕ). 0 ∷ r) (from (suc k) n)

count_at_most : (i : ℕ) (entries : List ℕ) → count i entries ≤ length entries
count_at_most i [] = omega arith
count_at_most i (x ∷ rest) = go (ℕ_discrete x i) (count_at_most i rest)
  where
    go : Dec (x ≡ i) → count i rest ≤ length rest → count i (x ∷ rest) ≤ suc (length rest)
    go (yes e) h = rw (eq-eqb x i e) (omega arith)
    go (no o) h = rw (ne_eqb x i o) (omega arith)

pub tallied_at_most : (entries : List ℕ) (actions i : ℕ) → i < actions → get_or (tallied entries actions) i 0 ≤ length entries
tallied_at_most entries actions i h = omega (arith, tallied_at entries actions i h, count_at_most i entries)

pub one-tallied :
    (entries : List ℕ) (actions k x : ℕ) → k < length entries → x ≡ get_or entries k 0 → x < actions
    → set (tallied (take k entries) actions) x (get_or (tallied (take k entries) actions) x 0 + 1) ≡ tallied (take (k + 1) entries) actions
one-tallied entries actions k x h is_x low =
    ext_get_or 0 (set old x _) new (length-set old x _ ∙ (length-listed _ 0 actions ∙ sym (length-listed _ 0 actions)))
    (λ i g. go i (omega (arith, length-set old x (get_or old x 0 + 1), length-listed (λ i. count i (take k entries)) 0 actions)) (ℕ_discrete i x))
  where
    old : List ℕ
    old = tallied (take k entries) actions

    new : List ℕ
    new = tallied (take (k + 1) entries) actions

    added : (i : ℕ) → count i (take (k + 1) entries) ≡ count i (take k entries) + one (eqb x i)
    added i = rw (add-one k, take-suc entries k 0 h, ← is_x) (omega (arith, count-append i (take k entries) (x ∷ [])))

    go : (i : ℕ) → i < actions → Dec (i ≡ x) → get_or (set old x (get_or old x 0 + 1)) i 0 ≡ get_or new i 0
    go i g (yes e) =
        rw e (get_or-set_same old x (get_or old x 0 + 1) 0 (rw (length-listed (λ i. count i (take k entries)) 0 actions) low)
        ∙ rw (tallied_at (take k entries) actions x low, tallied_at (take (k + 1) entries) actions x low, added x, eq-eqb x x refl))
    go i g (no o) =
        get_or-set_other old x i _ 0 o
        ∙ rw (tallied_at (take k entries) actions i g, tallied_at (take (k + 1) entries) actions i g, added i, ne_eqb x i (λ e. o (sym e))) (omega arith)

-- ---- the entries of a position

stand_among :
    (plans : List (List ℕ)) (p : ℕ) (entries : List ℕ) → length entries ≡ length plans
    → ((k : ℕ) → k < length plans → get_or entries k 0 ≡ get_or (plan_at plans k) p 0) → (i : ℕ) → count i entries ≡ standing plans p i
unfolding standing
stand_among [] p [] e same i = refl
stand_among [] p (x ∷ entries) e same i = absurd (omega arith)
stand_among (plan ∷ plans) p [] e same i = absurd (omega arith)
stand_among (plan ∷ plans) p (x ∷ entries) e same i =
    rw (same 0 (omega arith), stand_among plans p entries (omega arith) (λ k h. same (suc k) (omega arith)) i)

pub row_tallied :
    (plans : List (List ℕ)) (p actions : ℕ) (entries : List ℕ) → length entries ≡ length plans
    → ((k : ℕ) → k < length plans → get_or entries k 0 ≡ get_or (plan_at plans k) p 0)
    → tallied entries actions ≡ listed (standing plans p) 0 actions
row_tallied plans p actions entries e same = listed_alike (λ i. count i entries) (standing plans p) (stand_among plans p entries e same) 0 actions
