-- The conditions of one action, one after another: each has a step so far, and the table counts one more for each value that they want.
-- Assumes nothing.
use mathlib.Core.Path.{◌≡◌, sym, ◌∙◌}
use mathlib.Core.Logic.{◌≢◌}
use mathlib.Core.List.{List, [], ◌∷◌}
use Prim.Native.Nat.{ℕ, zero, suc, ◌+◌, ◌*◌, ◌≤◌, ◌<◌}
use native.Mathlib.Omega.{arith}
use native.Mathlib.Decide.{ℕ_discrete}
use lib.ListN.{length, get_or, take, set, length-set}
use lib.Seq.{take-length, get_or-set_same, get_or-set_other}
use borrow.Author.Count.{below_more}
use Rattle.ranks.specs.Ranks.{one}
use Rattle.study.specs.Study.{Condition, Study, condition_at}
use Rattle.walks.specs.Walks.{conditions_of}
use Rattle.wanting.specs.Wanting.{wants, StandAt, step_at, HaveSteps, FirstOff, Raised, WantsEach}
use Rattle.std.specs.Prelude.{Ok}
use Rattle.wanting.proofs.Counting.{wants_next_other, wants_next_own}
use Rattle.wanting.proofs.Conditions.{Here, stands_here, conditions_rise}

-- the table with one more at an index
abbrev pub raised : List ℕ → ℕ → List ℕ
raised table j = set table j (get_or table j 0 + 1)

raised_at_most : (table : List ℕ) (j i : ℕ) → get_or (raised table j) i 0 ≤ get_or table i 0 + 1
raised_at_most [] j i = omega arith
raised_at_most (x ∷ table) zero zero = omega arith
raised_at_most (x ∷ table) zero (suc i) = omega arith
raised_at_most (x ∷ table) (suc j) zero = omega arith
raised_at_most (x ∷ table) (suc j) (suc i) = raised_at_most table j i

-- one condition more, on a variable of its own
raised_next :
    (cs : List Condition) (k : ℕ) (table table' : List ℕ)
    → k < length cs → length table' ≡ 512
    → ((m : ℕ) → m < k → (condition_at cs m).var < (condition_at cs k).var)
    → (condition_at cs k).var < 32 → (condition_at cs k).value < 16
    → Raised (take k cs) table table'
    → Raised (take (k + 1) cs) table (raised table' (16 * (condition_at cs k).var + (condition_at cs k).value))
raised_next cs k table table' h size rise low narrow before u q below slim = from (ℕ_discrete u c.var) (ℕ_discrete q c.value)
  where
    c : Condition
    c = condition_at cs k

    j : ℕ
    j = 16 * c.var + c.value

    Next : ℕ → ℕ → Type 0
    Next u q = get_or (raised table' j) (16 * u + q) 0 ≡ get_or table (16 * u + q) 0 + one (wants (take (k + 1) cs) u q)

    another : (c.var ≡ u → c.value ≡ q → ⊥) → Next u q
    another o =
        rw (wants_next_other cs k h u q o, get_or-set_other table' j (16 * u + q) (get_or table' j 0 + 1) 0 (λ e. o (omega arith) (omega arith)))
        (before u q below slim)

    own : Next c.var c.value
    own =
        omega (
          arith,
          get_or-set_same table' j (get_or table' j 0 + 1) 0 (omega arith),
          before c.var c.value low narrow,
          wants_next_own cs k h rise,
        )

    from : Dec (u ≡ c.var) → Dec (q ≡ c.value) → Next u q
    from (yes e) (yes f) = rw (e, f) own
    from (yes e) (no d) = another (λ a b. d (sym b))
    from (no d) _ = another (λ a b. d (sym a))

-- where the pass stands; no entry grows past 255 * 255 + 255
pub record Underway (file : List ℕ) (place many : ℕ) (steps table table' : List ℕ) (k : ℕ) : Type 0 where
  pub some : (t : Study) × (i : ℕ) × StandAt file place many t i
  pub fits : (j : ℕ) → get_or table j 0 ≤ 255 * 255
  pub size : length table' ≡ 512
  pub few : k ≤ many
  pub low : (j : ℕ) → get_or table' j 0 ≤ get_or table j 0 + k
  pub so_far_lem :
      (t : Study) (i : ℕ) → StandAt file place many t i
      → HaveSteps (conditions_of t i) steps k × Raised (take k (conditions_of t i)) table table'

pub begins :
    {file : List ℕ} {place many : ℕ} {steps table : List ℕ}
    → length table ≡ 512 → ((j : ℕ) → get_or table j 0 ≤ 255 * 255) → (t : Study) × (i : ℕ) × StandAt file place many t i
    → Underway file place many steps table table 0
unfolding wants
begins size fits some = record {
  some = some;
  fits = fits;
  size = size;
  few = omega arith;
  low = λ j. omega arith;
  so_far_lem = λ t i s. (λ k h. absurd (omega arith), λ u q b c. omega arith);
}

module _
    {file : List ℕ} {place many : ℕ} {steps table table' : List ℕ} {k : ℕ}
    (under : Underway file place many steps table table' k) (h : k < many) {at : ℕ} (is_at : at ≡ place + 3 * k) where
  -- a condition that fits the tables stands here
  pub here : (c : Condition) × Here file at c
  here = let (t, i, stand) = under.some in (condition_at (conditions_of t i) k, stands_here stand at k is_at h)

  module _ {x y : ℕ} (is_var : x ≡ get_or file (at + 1) 0) (is-value : y ≡ get_or file (at + 2) 0) where
    -- its entry in the tables
    same_entry :
        (t : Study) (i : ℕ) → StandAt file place many t i
        → 16 * x + y ≡ 16 * (condition_at (conditions_of t i) k).var + (condition_at (conditions_of t i) k).value
    same_entry t i stand = let w = stands_here stand at k is_at h in omega (arith, w.var, w.value)

    pub goes_on : get_or steps (16 * x + y) 0 ≢ 0 → Underway file place many steps table (raised table' (16 * x + y)) (k + 1)
    goes_on has-step = record {
      some = under.some;
      fits = under.fits;
      size = length-set table' _ _ ∙ under.size;
      few = omega arith;
      low = λ j. omega (arith, under.low j, raised_at_most table' (16 * x + y) j);
      so_far_lem =
          λ t i stand.
          let w = stands_here stand at k is_at h in
          let b = under.so_far_lem t i stand in (
            below_more (λ m. step_at (conditions_of t i) steps m ≢ 0) k b.0 (rw (same_entry t i stand) at has-step),
            rw (same_entry t i stand) (raised_next (conditions_of t i) k table table' (omega (arith, stand.holds.count)) under.size
                (λ m l. conditions_rise stand m k l h) w.low w.narrow b.1),
          );
    }

    pub breaks_off :
        get_or steps (16 * x + y) 0 ≡ 0
        → (t : Study) (i : ℕ) → StandAt file place many t i → FirstOff (conditions_of t i) steps (get_or file (at + 1) 0)
    breaks_off no_step t i stand = record {
      at = k;
      there = omega (arith, stand.holds.count);
      var = sym (stands_here stand at k is_at h).var;
      off = rw (same_entry t i stand) at no_step;
      before = (under.so_far_lem t i stand).0;
    }

pub ends :
    {file : List ℕ} {place many : ℕ} {steps table table' : List ℕ} {k : ℕ}
    → Underway file place many steps table table' k → many ≤ k
    → (t : Study) (i : ℕ) → StandAt file place many t i → WantsEach (conditions_of t i) steps table table' (Ok tt)
ends {k = k} under h t i stand =
    let e : k ≡ length (conditions_of t i) = omega (arith, under.few, stand.holds.count) in
    let b = under.so_far_lem t i stand in
    (rw e at b.0, rw (e, take-length) at b.1)
