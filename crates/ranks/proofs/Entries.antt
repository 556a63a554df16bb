-- The entries of a rank list: it is a list of n numbers below n, no two the same, and each such list is one.
-- Assumes nothing.
use mathlib.Core.Path.{◌≡◌, refl, sym, ap, ◌∙◌}
use mathlib.Core.Bool.{Bool, true, false}
use mathlib.Core.List.{List, [], ◌∷◌}
use mathlib.Core.Logic.{◌≢◌}
use Prim.Native.Nat.{ℕ, zero, suc, ◌+◌, ◌<◌, ◌≤◌, suc-le-suc}
use native.Mathlib.Nat.{le_of_suc-le-suc, not-suc-le-zero}
use native.Mathlib.Omega.{arith}
use native.Mathlib.Decide.{ℕ_discrete, dec_lt}
use borrow.Author.Tests.{eq-eqb, ne_eqb, lt-ltb, le-ltb}
use lib.Dec.{eqb, ltb}
use lib.ListN.{length, get_or}
use Rattle.ranks.specs.Ranks.{one, count, RankList}

at_most_1 : (t : Bool) → one t ≤ 1
at_most_1 true = omega arith
at_most_1 false = omega arith

one_more : (x m : ℕ) → one (ltb x (suc m)) ≡ one (ltb x m) + one (eqb x m)
one_more x m = go (dec_lt x m) (ℕ_discrete x m)
  where
    go : Dec (x < m) → Dec (x ≡ m) → one (ltb x (suc m)) ≡ one (ltb x m) + one (eqb x m)
    go (yes h) _ = rw (lt-ltb x (suc m) (omega arith), lt-ltb x m h, ne_eqb x m (omega arith)) (omega arith)
    go (no h) (yes e) = rw (lt-ltb x (suc m) (omega arith), le-ltb x m (omega arith), eq-eqb x m e) (omega arith)
    go (no h) (no d) = rw (le-ltb x (suc m) (omega arith), le-ltb x m (omega arith), ne_eqb x m d) (omega arith)

-- how many entries are below m, counted number by number
below : ℕ → List ℕ → ℕ
below zero l = 0
below (suc m) l = below m l + count m l

below_nil : (m : ℕ) → below m [] ≡ 0
unfolding below
below_nil zero = refl
below_nil (suc m) = omega (arith, below_nil m)

below_cons : (m x : ℕ) (xs : List ℕ) → below m (x ∷ xs) ≡ one (ltb x m) + below m xs
unfolding below
below_cons zero x xs = rw (le-ltb x 0 (omega arith)) refl
below_cons (suc m) x xs = omega (arith, below_cons m x xs, one_more x m)

below_at_most_length : (m : ℕ) (l : List ℕ) → below m l ≤ length l
below_at_most_length m [] = omega (arith, below_nil m)
below_at_most_length m (x ∷ xs) = omega (arith, below_cons m x xs, at_most_1 (ltb x m), below_at_most_length m xs)

below_of_once : (l : List ℕ) (m : ℕ) → ((k : ℕ) → k < m → count k l ≡ 1) → below m l ≡ m
unfolding below
below_of_once l zero once = refl
below_of_once l (suc m) once = omega (arith, below_of_once l m (λ k h. once k (omega arith)), once m (omega arith))

-- where as many entries are below m as there are entries, each is
all_below : (m : ℕ) (l : List ℕ) → length l ≤ below m l → (i : ℕ) → i < length l → get_or l i 0 < m
all_below m [] full i h = absurd (not-suc-le-zero h)
all_below m (x ∷ xs) full zero h = go (dec_lt x m)
  where
    go : Dec (x < m) → x < m
    go (yes b) = b
    go (no b) =
        absurd (omega (arith, below_cons m x xs, ap one (le-ltb x m (omega arith)), below_at_most_length m xs))
all_below m (x ∷ xs) full (suc i) h =
    all_below m xs (omega (arith, below_cons m x xs, at_most_1 (ltb x m))) i (le_of_suc-le-suc h)

pub entry_of_rank_list_below : {n : ℕ} {l : List ℕ} → RankList n l → (i : ℕ) → i < n → get_or l i 0 < n
entry_of_rank_list_below {n} {l} r i h =
    all_below n l (omega (arith, below_of_once l n r.holds_each_once)) i (omega arith)

counted : (k : ℕ) (l : List ℕ) (i : ℕ) → i < length l → get_or l i 0 ≡ k → 1 ≤ count k l
counted k [] i h e = absurd (not-suc-le-zero h)
counted k (x ∷ xs) zero h e = omega (arith, ap one (eq-eqb x k e))
counted k (x ∷ xs) (suc i) h e = omega (arith, counted k xs i (le_of_suc-le-suc h) e)

counted_twice : (k : ℕ) (l : List ℕ) (i j : ℕ) → i < j → j < length l → get_or l i 0 ≡ k → get_or l j 0 ≡ k → 2 ≤ count k l
counted_twice k [] i j b h e f = absurd (not-suc-le-zero h)
counted_twice k (x ∷ xs) zero zero b h e f = absurd (not-suc-le-zero b)
counted_twice k (x ∷ xs) (suc i) zero b h e f = absurd (not-suc-le-zero b)
counted_twice k (x ∷ xs) zero (suc j) b h e f =
    omega (arith, ap one (eq-eqb x k e), counted k xs j (le_of_suc-le-suc h) f)
counted_twice k (x ∷ xs) (suc i) (suc j) b h e f =
    omega (arith, counted_twice k xs i j (le_of_suc-le-suc b) (le_of_suc-le-suc h) e f)

pub entries_of_rank_list_differ : {n : ℕ} {l : List ℕ} → RankList n l → (i j : ℕ) → i < j → j < n → get_or l i 0 ≢ get_or l j 0
entries_of_rank_list_differ {n} {l} r i j b h e =
    let k = get_or l j 0 in
    omega (arith, counted_twice k l i j b (omega arith) e refl, r.holds_each_once k (entry_of_rank_list_below r j h))

-- ---- the other way

below_of_all : (m : ℕ) (l : List ℕ) → ((i : ℕ) → i < length l → get_or l i 0 < m) → below m l ≡ length l
below_of_all m [] small = below_nil m
below_of_all m (x ∷ xs) small =
    omega (
      arith,
      below_cons m x xs,
      ap one (lt-ltb x m (small 0 (omega arith))),
      below_of_all m xs (λ i h. small (suc i) (suc-le-suc h)),
    )

not_counted : (k : ℕ) (l : List ℕ) → ((i : ℕ) → i < length l → get_or l i 0 ≢ k) → count k l ≡ 0
not_counted k [] other = refl
not_counted k (x ∷ xs) other =
    omega (
      arith,
      ap one (ne_eqb x k (other 0 (omega arith))),
      not_counted k xs (λ i h. other (suc i) (suc-le-suc h)),
    )

abbrev Differ : List ℕ → Type 0
Differ l = (i j : ℕ) → i < j → j < length l → get_or l i 0 ≢ get_or l j 0

counted_at_most_once : (k : ℕ) (l : List ℕ) → Differ l → count k l ≤ 1
counted_at_most_once k [] differ = omega arith
counted_at_most_once k (x ∷ xs) differ =
    go (ℕ_discrete x k) (counted_at_most_once k xs (λ i j b h. differ (suc i) (suc j) (suc-le-suc b) (suc-le-suc h)))
  where
    go : Dec (x ≡ k) → count k xs ≤ 1 → count k (x ∷ xs) ≤ 1
    go (yes e) _ =
        omega (
          arith,
          ap one (eq-eqb x k e),
          not_counted k xs (λ j h f. differ 0 (suc j) (omega arith) (suc-le-suc h) (e ∙ sym f)),
        )
    go (no d) rest = omega (arith, ap one (ne_eqb x k d))

module _ (l : List ℕ) (at-most-once : (k : ℕ) → count k l ≤ 1) where
  below_at_most : (m : ℕ) → below m l ≤ m
  unfolding below
  below_at_most zero = omega arith
  below_at_most (suc m) = omega (arith, below_at_most m, at-most-once m)

  once_of_below : (m : ℕ) → m ≤ below m l → (k : ℕ) → k < m → count k l ≡ 1
  unfolding below
  once_of_below zero full k h = absurd (not-suc-le-zero h)
  once_of_below (suc m) full k h = go (ℕ_discrete k m) (once_of_below m (omega (arith, at-most-once m)) k)
    where
      go : Dec (k ≡ m) → (k < m → count k l ≡ 1) → count k l ≡ 1
      go (yes e) _ = ap (λ (v : ℕ). count v l) e ∙ omega (arith, below_at_most m, at-most-once m)
      go (no d) earlier = earlier (omega arith)

pub rank_list_of_entries : {n : ℕ} (l : List ℕ) → length l ≡ n → ((i : ℕ) → i < n → get_or l i 0 < n)
    → ((i j : ℕ) → i < j → j < n → get_or l i 0 ≢ get_or l j 0) → RankList n l
rank_list_of_entries {n} l e small differ = record {
  an_entry_for_each = e;
  holds_each_once =
      once_of_below l (λ k. counted_at_most_once k l (λ i j b h. differ i j b (omega arith))) n
      (omega (arith, below_of_all n l (λ i h. small i (omega arith))));
}
