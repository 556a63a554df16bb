-- The conditions of one action, one after another: the action is put among those that want each value that they want.
-- Assumes nothing.
use mathlib.Core.Path.{◌≡◌, refl, sym, ◌∙◌}
use mathlib.Core.Bool.{Bool, true, false, ◌&&◌, ◌||◌, or-true}
use mathlib.Core.List.{List, [], ◌∷◌, ◌++◌}
use Prim.Native.Nat.{ℕ, ◌+◌, ◌*◌, ◌≤◌, ◌<◌}
use native.Mathlib.Numerals.{add-one}
use native.Mathlib.Omega.{arith}
use native.Mathlib.Decide.{ℕ_discrete}
use lib.Dec.{eqb}
use lib.ListN.{length, get_or, take, set, length-set}
use lib.Seq.{take-suc, take-length, get_or-set_same, get_or-set_other}
use borrow.Author.Tests.{eq-eqb}
use Rattle.bits.specs.Bits.{within, Added}
use Rattle.study.specs.Study.{Condition, Study, condition_at, no_condition}
use Rattle.walks.specs.Walks.{conditions_of}
use Rattle.wanting.specs.Wanting.{wants, StandAt}
use Rattle.wanting.proofs.Counting.{wants_next_other}
use Rattle.wanting.proofs.Conditions.{Here, stands_here}
use Rattle.explained.specs.Wanters.{Sets, set_at, InFours}

-- besides those that were in it, the action is in the set of each value that the conditions want
abbrev pub PutIn : List Condition → ℕ → Sets → Sets → Type 0
PutIn cs i sets sets' =
    (v q x : ℕ) → v < 32 → q < 16 → within (set_at sets' v q) x ≡ ((eqb i x && wants cs v q) || within (set_at sets v q) x)

-- ---- one condition more

wants_last : (xs : List Condition) (c : Condition) → wants (xs ++ (c ∷ [])) c.var c.value ≡ true
unfolding wants
wants_last [] c = simp (eq-eqb c.var c.var refl, eq-eqb c.value c.value refl)
wants_last (x ∷ xs) c = simp (wants_last xs c, or-true)

wants_own : (cs : List Condition) (k : ℕ) → k < length cs → wants (take (k + 1) cs) (condition_at cs k).var (condition_at cs k).value ≡ true
wants_own cs k h = rw (add-one k, take-suc cs k no_condition h) (wants_last (take k cs) (condition_at cs k))

added_again : (b w z : Bool) → (b || ((b && w) || z)) ≡ ((b && true) || z)
added_again true w z = refl
added_again false w z = refl

put_next :
    (cs : List Condition) (k i : ℕ) (sets sets' : Sets) (row : List ℕ)
    → k < length cs → length sets' ≡ 512 → (condition_at cs k).var < 32 → (condition_at cs k).value < 16
    → PutIn (take k cs) i sets sets' → Added i (set_at sets' (condition_at cs k).var (condition_at cs k).value) row
    → PutIn (take (k + 1) cs) i sets (set sets' (16 * (condition_at cs k).var + (condition_at cs k).value) row)
put_next cs k i sets sets' row h size low narrow before added v q x below slim = from (ℕ_discrete v c.var) (ℕ_discrete q c.value)
  where
    c : Condition
    c = condition_at cs k

    j : ℕ
    j = 16 * c.var + c.value

    Next : ℕ → ℕ → Type 0
    Next v q = within (set_at (set sets' j row) v q) x ≡ ((eqb i x && wants (take (k + 1) cs) v q) || within (set_at sets v q) x)

    another : (c.var ≡ v → c.value ≡ q → ⊥) → Next v q
    another o =
        rw (wants_next_other cs k h v q o, get_or-set_other sets' j (16 * v + q) row [] (λ e. o (omega arith) (omega arith)))
        (before v q x below slim)

    own : Next c.var c.value
    own =
        rw (wants_own cs k h, get_or-set_same sets' j row [] (omega arith), added.members x, before c.var c.value x low narrow)
        (added_again (eqb i x) (wants (take k cs) c.var c.value) (within (set_at sets c.var c.value) x))

    from : Dec (v ≡ c.var) → Dec (q ≡ c.value) → Next v q
    from (yes e) (yes f) = rw (e, f) own
    from (yes e) (no d) = another (λ a b. d (sym b))
    from (no d) _ = another (λ a b. d (sym a))

-- sets of four words stay so where one of them is replaced by another
fours_kept : (sets : Sets) (j : ℕ) (row : List ℕ) → length sets ≡ 512 → j < 512 → InFours sets → length row ≡ 4 → InFours (set sets j row)
fours_kept sets j row size low fours four m h = from (ℕ_discrete m j)
  where
    from : Dec (m ≡ j) → length (get_or (set sets j row) m []) ≡ 4
    from (yes e) = rw (e, get_or-set_same sets j row [] (omega arith)) four
    from (no d) = rw (get_or-set_other sets j m row [] d) (fours m h)

-- ---- where the pass over the conditions stands

pub record Underway (file : List ℕ) (i place many : ℕ) (sets sets' : Sets) (at k : ℕ) : Type 0 where
  pub some : (t : Study) × (a : ℕ) × StandAt file place many t a
  pub size : length sets' ≡ 512
  pub fours : InFours sets'
  pub few : k ≤ many
  pub is_at : at ≡ place + 3 * k
  pub so_far_lem : (t : Study) → StandAt file place many t i → PutIn (take k (conditions_of t i)) i sets sets'

pub begins :
    {file : List ℕ} {i place many : ℕ} {sets : Sets}
    → length sets ≡ 512 → InFours sets → (t : Study) × (a : ℕ) × StandAt file place many t a
    → Underway file i place many sets sets place 0
unfolding wants
begins {i = i} {sets = sets} size fours some = record {
  some = some;
  size = size;
  fours = fours;
  few = omega arith;
  is_at = omega arith;
  so_far_lem = λ t s v q x b c. none_put (eqb i x) (within (set_at sets v q) x);
}
  where
    none_put : (b z : Bool) → z ≡ ((b && false) || z)
    none_put true z = refl
    none_put false z = refl

module _
    {file : List ℕ} {i place many : ℕ} {sets sets' : Sets} {at k : ℕ}
    (under : Underway file i place many sets sets' at k) (h : k < many) where
  -- a condition that fits the tables stands here
  pub here : (c : Condition) × Here file at c
  here = let (t, a, stand) = under.some in (condition_at (conditions_of t a) k, stands_here stand at k under.is_at h)

  module _ {x y : ℕ} (is_var : x ≡ get_or file (at + 1) 0) (is-value : y ≡ get_or file (at + 2) 0) where
    pub in_table_lem : 16 * x + y < 512
    in_table_lem = let (c, w) = here in omega (arith, w.var, w.value, w.low, w.narrow)

    pub four_here : length (get_or sets' (16 * x + y) []) ≡ 4
    four_here = under.fours (16 * x + y) in_table_lem

    pub goes_on : {row : List ℕ} → Added i (get_or sets' (16 * x + y) []) row → Underway file i place many sets (set sets' (16 * x + y) row) (at + 3) (k + 1)
    goes_on {row} added = record {
      some = under.some;
      size = length-set sets' _ _ ∙ under.size;
      fours = fours_kept sets' (16 * x + y) row under.size in_table_lem under.fours added.long;
      few = omega arith;
      is_at = omega (arith, under.is_at);
      so_far_lem =
          λ t stand.
          let w = stands_here stand at k under.is_at h in
          let e : x ≡ (condition_at (conditions_of t i) k).var = is_var ∙ w.var in
          let f : y ≡ (condition_at (conditions_of t i) k).value = is-value ∙ w.value in
          rw (e, f) (put_next (conditions_of t i) k i sets sets' row (omega (arith, stand.holds.count)) under.size w.low w.narrow
          (under.so_far_lem t stand) (rw (e, f) at added));
    }

pub ends :
    {file : List ℕ} {i place many : ℕ} {sets sets' : Sets} {at k : ℕ}
    → Underway file i place many sets sets' at k → many ≤ k
    → (t : Study) → StandAt file place many t i → PutIn (conditions_of t i) i sets sets'
ends {i = i} {k = k} under h t stand =
    let e : k ≡ length (conditions_of t i) = omega (arith, under.few, stand.holds.count) in
    rw (e, take-length) at (under.so_far_lem t stand)
