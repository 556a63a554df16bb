-- Tests of a list's numbers and of those that stand in it twice, by its first entries, one more in each turn.
-- Assumes nothing.
use mathlib.Core.Path.{◌≡◌, sym, ap, ◌∙◌}
use mathlib.Core.Logic.{inl, inr, ◌↔◌}
use mathlib.Core.Bool.{Bool, true, false, ◌||◌}
use mathlib.Core.List.{List, [], ◌∷◌}
use Prim.Native.Nat.{ℕ, ◌+◌, ◌≤◌, ◌<◌}
use native.Mathlib.Numerals.{add-one}
use native.Mathlib.Omega.{arith}
use native.Mathlib.Decide.{ℕ_discrete}
use lib.Dec.{eqb, ltb}
use lib.ListN.{length, get_or, take}
use lib.Seq.{take-suc, take-length}
use borrow.Author.Tests.{eq-eqb, ne_eqb, lt-ltb, le-ltb, ltb-true, ltb-false}
use Rattle.ranks.specs.Ranks.{one, count}
use Rattle.ranks.proofs.Laws.{count-append}
use Rattle.orders.specs.Orders.{In}

-- ---- how often, and whether at all

pub in_counted : (i : ℕ) (list : List ℕ) → In i list → 0 < count i list
in_counted i [] h = absurd h
in_counted i (x ∷ list) (inl e) = rw (eq-eqb x i (sym e)) (omega arith)
in_counted i (x ∷ list) (inr h) = omega (arith, in_counted i list h)

pub counted_in : (i : ℕ) (list : List ℕ) → 0 < count i list → In i list
counted_in i [] h = absurd (omega arith)
counted_in i (x ∷ list) h = go (ℕ_discrete x i) (counted_in i list)
  where
    go : Dec (x ≡ i) → (0 < count i list → In i list) → In i (x ∷ list)
    go (yes e) _ = inl (sym e)
    go (no d) rest = inr (rest (omega (arith, rw (ne_eqb x i d) at h)))

count_next : (list : List ℕ) (k i : ℕ) → k < length list → count i (take (k + 1) list) ≡ count i (take k list) + one (eqb (get_or list k 0) i)
count_next list k i h =
    rw (add-one k, take-suc list k 0 h, count-append i (take k list) (get_or list k 0 ∷ [])) (omega arith)

same_test : (m n : ℕ) → ltb m n ≡ ltb m (n + 0)
same_test m n = let e : n ≡ n + 0 = omega arith in ap (ltb m) e

-- ---- the sets

-- the first k entries, by a test of what is there and one of what repeats
pub record GatheredBy (list : List ℕ) (set twice : ℕ → Bool) (k : ℕ) : Type 0 where
  pub few : k ≤ length list
  pub there : (i : ℕ) → set i ≡ ltb 0 (count i (take k list))
  pub repeated : (i : ℕ) → twice i ≡ ltb 1 (count i (take k list))

pub none_by : {list : List ℕ} {set twice : ℕ → Bool} → ((i : ℕ) → set i ≡ false) → ((i : ℕ) → twice i ≡ false) → GatheredBy list set twice 0
none_by empty none = record {
  few = omega arith;
  there = λ i. empty i ∙ sym (le-ltb 0 0 (omega arith));
  repeated = λ i. none i ∙ sym (le-ltb 1 0 (omega arith));
}

-- one test tells a number besides those of the other
abbrev pub Besides : ℕ → (ℕ → Bool) → (ℕ → Bool) → Type 0
Besides x f g = (i : ℕ) → g i ≡ (eqb x i || f i)

module _ {list : List ℕ} {set twice : ℕ → Bool} {k : ℕ} (g : GatheredBy list set twice k) (h : k < length list) where
  there_next : {set' : ℕ → Bool} → Besides (get_or list k 0) set set' → (i : ℕ) → set' i ≡ ltb 0 (count i (take (k + 1) list))
  there_next added i = added i ∙ rw (g.there i, count_next list k i h) (go (eqb (get_or list k 0) i) (count i (take k list)))
    where
      go : (b : Bool) (n : ℕ) → (b || ltb 0 n) ≡ ltb 0 (n + one b)
      go true n = sym (lt-ltb 0 (n + 1) (omega arith))
      go false n = same_test 0 n

  -- its entry was there, and is put among those that repeat
  pub again_by :
      {set' twice' : ℕ → Bool} → set (get_or list k 0) ≡ true → Besides (get_or list k 0) set set' → Besides (get_or list k 0) twice twice'
      → GatheredBy list set' twice' (k + 1)
  again_by {set'} {twice'} was added put = record {
    few = omega arith;
    there = there_next added;
    repeated = λ i. put i ∙ rw (g.repeated i, count_next list k i h) (go i (ℕ_discrete (get_or list k 0) i));
  }
    where
      go : (i : ℕ) → Dec (get_or list k 0 ≡ i)
          → (eqb (get_or list k 0) i || ltb 1 (count i (take k list))) ≡ ltb 1 (count i (take k list) + one (eqb (get_or list k 0) i))
      go i (yes e) =
          let some = ltb-true 0 (count i (take k list)) (sym (g.there i) ∙ rw e at was) in
          rw (eq-eqb (get_or list k 0) i e) (sym (lt-ltb 1 (count i (take k list) + 1) (omega arith)))
      go i (no d) = rw (ne_eqb (get_or list k 0) i d) (same_test 1 (count i (take k list)))

  -- its entry is new
  pub new_by : {set' : ℕ → Bool} → set (get_or list k 0) ≡ false → Besides (get_or list k 0) set set' → GatheredBy list set' twice (k + 1)
  new_by {set'} was added = record {
    few = omega arith;
    there = there_next added;
    repeated = λ i. g.repeated i ∙ rw (count_next list k i h) (go i (ℕ_discrete (get_or list k 0) i));
  }
    where
      go : (i : ℕ) → Dec (get_or list k 0 ≡ i) → ltb 1 (count i (take k list)) ≡ ltb 1 (count i (take k list) + one (eqb (get_or list k 0) i))
      go i (yes e) =
          let none = ltb-false 0 (count i (take k list)) (sym (g.there i) ∙ rw e at was) in
          rw (eq-eqb (get_or list k 0) i e)
          (le-ltb 1 (count i (take k list)) (omega arith) ∙ sym (le-ltb 1 (count i (take k list) + 1) (omega arith)))
      go i (no d) = rw (ne_eqb (get_or list k 0) i d) (same_test 1 (count i (take k list)))

pub all_by :
    {list : List ℕ} {set twice : ℕ → Bool} {k : ℕ} → GatheredBy list set twice k → length list ≤ k
    → ((i : ℕ) → (set i ≡ true) ↔ In i list) × ((i : ℕ) → (twice i ≡ true) ↔ (1 < count i list))
all_by {list} {set} {twice} {k} g h = (
  λ i. (
    λ w. counted_in i list (ltb-true 0 (count i list) (sym (there i) ∙ w)),
    λ l. there i ∙ lt-ltb 0 (count i list) (in_counted i list l),
  ),
  λ i. (λ w. ltb-true 1 (count i list) (sym (repeated i) ∙ w), λ l. repeated i ∙ lt-ltb 1 (count i list) l),
)
  where
    e : k ≡ length list
    e = omega (arith, g.few)

    there : (i : ℕ) → set i ≡ ltb 0 (count i list)
    there i = rw (e, take-length) at (g.there i)

    repeated : (i : ℕ) → twice i ≡ ltb 1 (count i list)
    repeated i = rw (e, take-length) at (g.repeated i)
