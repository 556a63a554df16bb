-- The conditions of one action, one after another: the orders that each tells are weighed.
-- Assumes nothing.
use mathlib.Core.Path.{◌≡◌, refl, ◌∙◌}
use mathlib.Core.Logic.{◌⊎◌, inl, inr}
use mathlib.Core.List.{List}
use Prim.Native.Nat.{ℕ, ◌+◌, ◌*◌, ◌≤◌, ◌<◌}
use native.Mathlib.Omega.{arith}
use native.Mathlib.Decide.{ℕ_discrete}
use lib.ListN.{length, get_or}
use Rattle.std.specs.Prelude.{Option}
use Rattle.study.specs.Study.{Condition, Study, condition_at}
use Rattle.lawful.proofs.Conditions.{conditions_few}
use Rattle.walks.specs.Walks.{conditions_of}
use Rattle.tracing.specs.Steps.{Rowed}
use Rattle.wanting.specs.Wanting.{StandAt}
use Rattle.wanting.proofs.Conditions.{Here, stands_here, condition_there}
use Rattle.ordering.proofs.Named.{step_low}
use Rattle.linking.specs.Linking.{Rows}
use Rattle.lacking.specs.Lacking.{Weighs, SetBefore, LeftAfter, OfCondition, OfConditions}
use Rattle.lacking.proofs.Weighing.{none_weighed, weighed_as, both_weighed}

-- the conditions of some action of a study whose walks are in the steps stand there
abbrev pub Stand : (file : List ℕ) → (place many : ℕ) → (steps : List ℕ) → Type 0
Stand file place many steps = (t : Study) × (j : ℕ) × StandAt file place many t j × Rowed t (length t.tasks) steps

-- where the pass stands
pub record Underway
    (file : List ℕ) (place many i : ℕ) (starts setters steps : List ℕ) (rows : Rows) (from best : Option (ℕ × ℕ)) (k : ℕ) : Type 0 where
  pub some : Stand file place many steps
  pub few : k ≤ many
  pub so_far_lem : Weighs rows (OfConditions file starts setters steps place k i) from best

pub begins :
    {file : List ℕ} {place many i : ℕ} {starts setters steps : List ℕ} {rows : Rows} {from : Option (ℕ × ℕ)}
    → Stand file place many steps → Underway file place many i starts setters steps rows from from 0
begins some = record {
  some = some;
  few = omega arith;
  so_far_lem = none_weighed (λ x y s. let (k, h, _) = s in omega arith);
}

module _
    {file : List ℕ} {place many i : ℕ} {starts setters steps : List ℕ} {rows : Rows} {from best : Option (ℕ × ℕ)} {k : ℕ}
    (under : Underway file place many i starts setters steps rows from best k) (h : k < many) where
  -- a condition that fits the tables stands here
  pub here : (c : Condition) × Here file (place + 3 * k) c
  here = let (t, j, stand, _) = under.some in (condition_at (conditions_of t j) k, stands_here stand (place + 3 * k) k refl h)

  pub few_conditions : many ≤ 31
  few_conditions =
      let (t, j, stand, _) = under.some in omega (arith, stand.holds.count, conditions_few stand.lawful j stand.there)

  module _ {v q : ℕ} (is_var : v ≡ get_or file (place + 3 * k + 1) 0) (is-value : q ≡ get_or file (place + 3 * k + 2) 0) where
    pub in_table_lem : 16 * v + q < 512
    in_table_lem = let (c, w) = here in omega (arith, w.var, w.value, w.low, w.narrow)

    pub step_fits : get_or steps (16 * v + q) 0 < 258
    step_fits =
        let (t, j, stand, rowed) = under.some in
        let w = stands_here stand (place + 3 * k) k refl h in
        rw (is_var ∙ w.var, is-value ∙ w.value)
        (omega (arith, step_low rowed _ _ (condition_there stand k h) w.narrow, stand.lawful.few_actions))

    pub goes_on :
        {start : ℕ} {mid next : Option (ℕ × ℕ)} → start ≡ get_or starts v 0
        → Weighs rows (SetBefore (get_or file (place + 3 * k + 2) 0) start (get_or setters (16 * v + q) 0) i) best mid
        → Weighs rows (LeftAfter i (get_or steps (16 * v + q) 0)) mid next
        → Underway file place many i starts setters steps rows from next (k + 1)
    goes_on {start} {mid} {next} is-start set left = record {
      some = under.some;
      few = omega arith;
      so_far_lem = weighed_as joined parted (both_weighed under.so_far_lem new);
    }
      where
        Here-told : ℕ → ℕ → Type 0
        Here-told = OfCondition starts setters steps i (get_or file (place + 3 * k + 1) 0) (get_or file (place + 3 * k + 2) 0)

        new : Weighs rows Here-told best next
        new = rw (is-start, is_var, is-value) at (both_weighed set left)

        joined :
            (x y : ℕ) → OfConditions file starts setters steps place k i x y ⊎ Here-told x y
            → OfConditions file starts setters steps place (k + 1) i x y
        joined x y (inl (m, l, s)) = (m, omega arith, s)
        joined x y (inr s) = (k, omega arith, s)

        parted :
            (x y : ℕ) → OfConditions file starts setters steps place (k + 1) i x y
            → OfConditions file starts setters steps place k i x y ⊎ Here-told x y
        parted x y (m, l, s) = go (ℕ_discrete m k)
          where
            go : Dec (m ≡ k) → OfConditions file starts setters steps place k i x y ⊎ Here-told x y
            go (yes e) = inr (rw e at s)
            go (no d) = inl (m, omega arith, s)

pub ends :
    {file : List ℕ} {place many i : ℕ} {starts setters steps : List ℕ} {rows : Rows} {from best : Option (ℕ × ℕ)} {k : ℕ}
    → Underway file place many i starts setters steps rows from best k → many ≤ k
    → Weighs rows (OfConditions file starts setters steps place many i) from best
ends {many = many} {k = k} under h = let e : k ≡ many = omega (arith, under.few) in rw e at under.so_far_lem

-- what the action leaves, and then others, which are its conditions
pub action_weighed :
    (starts setters : List ℕ) {var pre i : ℕ} {rows : Rows} {others : ℕ → ℕ → Type 0} {v p start : ℕ} {best mid r : Option (ℕ × ℕ)}
    → v ≡ var → p ≡ pre → start ≡ get_or starts v 0
    → Weighs rows (SetBefore pre start (get_or setters (16 * v + p) 0) i) best mid → Weighs rows others mid r
    → Weighs rows (λ x y. SetBefore pre (get_or starts var 0) (get_or setters (16 * var + pre) 0) i x y ⊎ others x y) best r
action_weighed starts setters is_var is_pre is-start set rest = both_weighed (rw (is-start, is_var, is_pre) at set) rest
