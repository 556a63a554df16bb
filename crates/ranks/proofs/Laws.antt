-- Laws of rank lists: what the rising list, a store and an exchange do to the length and to how often a number stands in a list.
-- Assumes nothing.
use mathlib.Core.Path.{◌≡◌, refl, sym, ap, ◌∙◌}
use mathlib.Core.List.{List, [], ◌∷◌, ◌++◌}
use Prim.Native.Nat.{ℕ, zero, suc, ◌+◌, ◌<◌, ◌≤◌}
use native.Mathlib.Nat.{le_of_suc-le-suc, not-suc-le-zero}
use native.Mathlib.Omega.{arith}
use native.Mathlib.Decide.{ℕ_discrete}
use borrow.Author.Tests.{eq-eqb, ne_eqb}
use lib.Dec.{eqb}
use lib.ListN.{length, get_or, set, length-append, length-set, get_or-append}
use lib.Seq.{get_or_at, get_or-set_same, get_or-set_other}
use Rattle.ranks.specs.Ranks.{one, count, RankList, rising, exchanged}

-- ---- the rising list

pub length-rising : (n : ℕ) → length (rising n) ≡ n
length-rising zero = refl
length-rising (suc n) = length-append (rising n) (n ∷ []) ∙ omega (arith, length-rising n)

pub get_d_rising : (n i : ℕ) → i < n → get_or (rising n) i 0 ≡ i
get_d_rising zero i h = absurd (not-suc-le-zero h)
get_d_rising (suc n) i h = go (ℕ_discrete i n) (get_d_rising n i)
  where
    go : Dec (i ≡ n) → (i < n → get_or (rising n) i 0 ≡ i) → get_or (rising (suc n)) i 0 ≡ i
    go (yes e) _ = get_or_at (rising n) n [] 0 i (length-rising n ∙ sym e) ∙ sym e
    go (no d) before =
        get_or-append (rising n) (n ∷ []) 0 i (omega (arith, length-rising n)) ∙ before (omega arith)

-- ---- how often a number stands in a list

pub count-append : (k : ℕ) (a b : List ℕ) → count k (a ++ b) ≡ count k a + count k b
count-append k [] b = omega arith
count-append k (x ∷ a) b = omega (arith, count-append k a b)

-- a store takes one number out and puts one in
pub count_set : (k : ℕ) (l : List ℕ) (i v : ℕ) → i < length l → count k (set l i v) + one (eqb (get_or l i 0) k) ≡ count k l + one (eqb v k)
count_set k [] i v h = absurd (not-suc-le-zero h)
count_set k (x ∷ xs) zero v h = omega arith
count_set k (x ∷ xs) (suc i) v h = omega (arith, count_set k xs i v (le_of_suc-le-suc h))

-- ---- an exchange

pub length_exchanged : (l : List ℕ) (i j : ℕ) → length (exchanged l i j) ≡ length l
length_exchanged l i j = simp length-set

-- storing what stands at j leaves what stands at j
kept : (l : List ℕ) (i j : ℕ) → i < length l → get_or (set l i (get_or l j 0)) j 0 ≡ get_or l j 0
kept l i j h = go (ℕ_discrete j i)
  where
    go : Dec (j ≡ i) → get_or (set l i (get_or l j 0)) j 0 ≡ get_or l j 0
    go (yes e) = ap (λ (m : ℕ). get_or (set l i (get_or l j 0)) m 0) e ∙ get_or-set_same l i (get_or l j 0) 0 h
    go (no d) = get_or-set_other l i j (get_or l j 0) 0 d

pub count-exchanged : (k : ℕ) (l : List ℕ) (i j : ℕ) → i < length l → j < length l → count k (exchanged l i j) ≡ count k l
count-exchanged k l i j hi hj =
    omega (
      arith,
      count_set k l i (get_or l j 0) hi,
      count_set k (set l i (get_or l j 0)) j (get_or l i 0) (simp length-set hj),
      ap (λ (v : ℕ). one (eqb v k)) (kept l i j hi),
    )

pub exchanged_keeps_rank_list : {n : ℕ} {l : List ℕ} (i j : ℕ) → i < n → j < n → RankList n l → RankList n (exchanged l i j)
exchanged_keeps_rank_list {n} {l} i j hi hj r = record {
  an_entry_for_each = length_exchanged l i j ∙ r.an_entry_for_each;
  holds_each_once = λ k h. count-exchanged k l i j (omega arith) (omega arith) ∙ r.holds_each_once k h;
}

-- ---- the rising list is a rank list

count_rising_past : (k n : ℕ) → n ≤ k → count k (rising n) ≡ 0
count_rising_past k zero h = refl
count_rising_past k (suc n) h =
    count-append k (rising n) (n ∷ []) ∙ rw (ne_eqb n k (omega arith)) (omega (arith, count_rising_past k n (omega arith)))

count-rising : (k n : ℕ) → k < n → count k (rising n) ≡ 1
count-rising k zero h = absurd (not-suc-le-zero h)
count-rising k (suc n) h = count-append k (rising n) (n ∷ []) ∙ go (ℕ_discrete n k) (count-rising k n)
  where
    go : Dec (n ≡ k) → (k < n → count k (rising n) ≡ 1) → count k (rising n) + count k (n ∷ []) ≡ 1
    go (yes e) _ = rw (eq-eqb n k e) (omega (arith, count_rising_past k n (omega arith)))
    go (no d) before = rw (ne_eqb n k d) (omega (arith, before (omega arith)))

pub rising_is_rank_list : (n : ℕ) → RankList n (rising n)
rising_is_rank_list n = record { an_entry_for_each = length-rising n; holds_each_once = λ k h. count-rising k n h }
