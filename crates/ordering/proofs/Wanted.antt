-- The conditions of one action, one after another: each has a step, its setter is in the word, and its leaver after the rank.
-- Assumes nothing.
use mathlib.Core.Path.{◌≡◌, sym, ◌∙◌}
use mathlib.Core.Logic.{inl, ◌≢◌}
use mathlib.Core.List.{List}
use Prim.Native.Nat.{ℕ, ◌+◌, ◌*◌, ◌≤◌, ◌<◌}
use native.Mathlib.Omega.{arith}
use lib.ListN.{length, get_or}
use Rattle.study.specs.Study.{Condition, Study}
use Rattle.lawful.proofs.Conditions.{conditions_few}
use Rattle.walks.specs.Walks.{conditions_of, start_of}
use Rattle.wanting.specs.Wanting.{FirstOff}
use Rattle.wanting.proofs.Conditions.{Here, stands_here}
use Rattle.marking.specs.Marking.{Ranked, SetterMarked, LeaverMarked}
use Rattle.ordering.specs.Marking.{Surveyed, WantedMarked, OrdersWanted}
use Rattle.std.specs.Prelude.{Ok}
use Rattle.ordering.proofs.OneCondition.{condition, low_rank, told_start, step_of_action, setter, one_more}

-- where the pass stands
pub record Underway
    (file : List ℕ) (place many rank : ℕ) (ranks firsts setters steps before before' : List ℕ) (first word k : ℕ) : Type 0 where
  pub some : (t : Study) × (i : ℕ) × Surveyed file place many rank ranks firsts setters steps t i
  pub size : length before' ≡ 64
  pub low : rank < 64
  pub ranked : Ranked ranks
  pub few : k ≤ many
  pub so_far_lem :
      (t : Study) (i : ℕ) → Surveyed file place many rank ranks firsts setters steps t i
      → WantedMarked t i k rank ranks steps before before' first word

pub begins :
    {file : List ℕ} {place many rank : ℕ} {ranks firsts setters steps before : List ℕ} {first : ℕ}
    → length before ≡ 64 → Ranked ranks
    → (t : Study) × (i : ℕ) × Surveyed file place many rank ranks firsts setters steps t i
    → Underway file place many rank ranks firsts setters steps before before first first 0
begins size ranked some = record {
  some = some;
  size = size;
  low = let (t, i, s) = some in low_rank s ranked;
  ranked = ranked;
  few = omega arith;
  so_far_lem = λ t i s. record {
    have_steps = λ k h. absurd (omega arith);
    setters = λ k h. absurd (omega arith);
    leavers = λ k h. absurd (omega arith);
    grows = λ a b m. m;
    keeps = λ b m. m;
    only_setters = λ b m. inl m;
    only_leavers = λ a b m. inl m;
  };
}

module _
    {file : List ℕ} {place many rank : ℕ} {ranks firsts setters steps before before' : List ℕ} {first word k : ℕ}
    (under : Underway file place many rank ranks firsts setters steps before before' first word k) (h : k < many) {at : ℕ} (is_at : at ≡ place + 3 * k) where
  -- a condition that fits the tables stands here
  pub here : (c : Condition) × Here file at c
  here = let (t, i, s) = under.some in (condition t i k, stands_here s.stand at k is_at h)

  module _ {x y : ℕ} (is_var : x ≡ get_or file (at + 1) 0) (is-value : y ≡ get_or file (at + 2) 0) where
    module _ (t : Study) (i : ℕ) (s : Surveyed file place many rank ranks firsts setters steps t i) where
      same_var : x ≡ (condition t i k).var
      same_var = is_var ∙ (stands_here s.stand at k is_at h).var

      read_value : get_or file (at + 2) 0 ≡ (condition t i k).value
      read_value = (stands_here s.stand at k is_at h).value

      same_value : y ≡ (condition t i k).value
      same_value = is-value ∙ read_value

    pub step_fits : get_or steps (16 * x + y) 0 < length ranks + 2
    step_fits = let (t, i, s) = under.some in rw (same_var t i s, same_value t i s) (step_of_action s k h)

    pub breaks_off :
        get_or steps (16 * x + y) 0 ≡ 0
        → (t : Study) (i : ℕ) → Surveyed file place many rank ranks firsts setters steps t i
        → FirstOff (conditions_of t i) steps (get_or file (at + 1) 0)
    breaks_off no_step t i s = record {
      at = k;
      there = omega (arith, s.stand.holds.count);
      var = sym (same_var t i s) ∙ is_var;
      off = rw (same_var t i s, same_value t i s) at no_step;
      before = (under.so_far_lem t i s).have_steps;
    }

    module _ (has-step : get_or steps (16 * x + y) 0 ≢ 0) {start : ℕ} (is-start : start ≡ get_or firsts x 0) where
      same_start :
          (t : Study) (i : ℕ) → Surveyed file place many rank ranks firsts setters steps t i
          → start ≡ start_of t (condition t i k).var
      same_start t i s = rw (same_var t i s, told_start s k h) at is-start

      pub setter_fits : get_or file (at + 2) 0 ≢ start → get_or setters (16 * x + y) 0 < length ranks
      setter_fits away =
          let (t, i, s) = under.some in
          rw (same_var t i s, same_value t i s)
          (omega (arith, s.actions, (setter s k h (rw (same_var t i s, same_value t i s) at has-step) (rw (read_value t i s, same_start t i s) at away)).0))

      pub goes_on :
          {before'' : List ℕ} {word' : ℕ}
          → LeaverMarked (get_or steps (16 * x + y) 0) rank ranks before' before''
          → SetterMarked word (get_or file (at + 2) 0) start (get_or ranks (get_or setters (16 * x + y) 0) 0) word'
          → Underway file place many rank ranks firsts setters steps before before'' first word' (k + 1)
      goes_on left set = record {
        some = under.some;
        size = left.long;
        low = under.low;
        ranked = under.ranked;
        few = omega arith;
        so_far_lem = λ t i s.
            one_more s k h (rw (same_var t i s, same_value t i s) at has-step) (under.so_far_lem t i s)
            (rw (same_var t i s, same_value t i s) at left)
            (rw (read_value t i s, same_start t i s, same_var t i s, same_value t i s) at set);
      }

pub ends :
    {file : List ℕ} {place many rank : ℕ} {ranks firsts setters steps before before' : List ℕ} {first word k : ℕ}
    → Underway file place many rank ranks firsts setters steps before before' first word k → many ≤ k
    → (t : Study) (i : ℕ) → Surveyed file place many rank ranks firsts setters steps t i
    → OrdersWanted t i rank ranks steps before before' first (Ok word)
ends {k = k} under h t i s =
    let e : k ≡ length (conditions_of t i) = omega (arith, under.few, s.stand.holds.count) in
    rw e at (under.so_far_lem t i s)
