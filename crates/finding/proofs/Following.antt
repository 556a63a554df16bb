-- A walk that is entered in the table of steps, followed from its start on: the value and the step after each of its actions, and the facts told so far.
-- Assumes nothing.
use mathlib.Core.Path.{◌≡◌, ◌∙◌}
use mathlib.Core.List.{List, [], ◌∷◌, ◌++◌, map-append}
use Prim.Native.Nat.{ℕ, suc, ◌+◌, ◌-◌, ◌*◌, ◌≤◌, ◌<◌}
use native.Mathlib.Omega.{arith}
use native.Mathlib.Decide.{dec_lt}
use lib.ListN.{length, get_or, take}
use lib.Seq.{take-suc, take-length}
use Rattle.study.specs.Study.{Study}
use Rattle.walks.specs.Walks.{post_of, start_of, goal_of}
use Rattle.walks.proofs.Unique.{walk_distinct, walk_there}
use Rattle.walks.proofs.Along.{reached, reached_left, reached_last}
use Rattle.tables.specs.Rows.{Row, post_column}
use Rattle.tracing.proofs.Ranges.{pre_small, start_small, goal_small, few_tasks}
use Rattle.tracing.proofs.Few.{trail_short}
use Rattle.facts.specs.declared.Fact.{Fact as FactRow}
use Rattle.facts.specs.declared.Fact.TheVariants.{Wants, Start, Walk}
use Rattle.explained.specs.Facts.{row_of, rows_of}
use Rattle.explained.specs.Refusals.{walk_fact}
use Rattle.finding.specs.Past.{Past, past_facts}

module _ {u : ℕ} {acts : List Row} {steps : List ℕ} {t : Study} {list : List ℕ} (past : Past u acts steps t list) where
  low : u < 32
  low = omega (arith, past.there, few_tasks past.lawful)

  walk_short : length list < 16
  walk_short =
      trail_short past.lawful {p = start_of t u} {q = goal_of t u} {xs = list} (start_small past.lawful u past.there)
      (record { leads = past.walk.leads; new = past.walk.ends_at_start }) (walk_distinct past.lawful past.walk)

  -- the value after the first k actions
  reached_small : (k : ℕ) → k ≤ length list → reached t u list k < 16
  reached_small k h = from (dec_lt k (length list))
    where
      from : Dec (k < length list) → reached t u list k < 16
      from (yes b) =
          rw (← reached_left past.walk k b) (pre_small past.lawful (get_or list k 0) (walk_there past.walk k b))
      from (no b) = rw (reached_last past.walk k (omega arith)) (goal_small past.lawful u past.there)

  -- .. and its step: an action goes on, or the walk ends
  step_on : (k : ℕ) → k < length list → get_or steps (16 * u + reached t u list k) 0 ≡ get_or list k 0 + 2
  step_on k h = rw (← reached_left past.walk k h) (past.row.leaves k h)

  step_end : (k : ℕ) → k ≡ length list → get_or steps (16 * u + reached t u list k) 0 ≡ 1
  step_end k e = rw (reached_last past.walk k e) past.row.ends

  goes_on_at : (k : ℕ) → k ≤ length list → 2 ≤ get_or steps (16 * u + reached t u list k) 0 → k < length list
  goes_on_at k h s = from (dec_lt k (length list))
    where
      from : Dec (k < length list) → k < length list
      from (yes b) = b
      from (no b) = absurd (omega (arith, step_end k (omega arith)))

  ends_at : (k : ℕ) → k ≤ length list → get_or steps (16 * u + reached t u list k) 0 < 2 → k ≡ length list
  ends_at k h s = from (dec_lt k (length list))
    where
      from : Dec (k < length list) → k ≡ length list
      from (yes b) = absurd (omega (arith, step_on k b))
      from (no b) = omega arith

  told_post : (k : ℕ) → k < length list → get_or (post_column acts) (get_or list k 0) 0 ≡ post_of t (get_or list k 0)
  told_post k h = past.tells_post _ (walk_there past.walk k h)

-- ---- the facts told so far

one_more_fact :
    (t : Study) (i u value : ℕ) (list : List ℕ) (a : ℕ)
    → rows_of (past_facts t i u value (list ++ (a ∷ []))) ≡ rows_of (past_facts t i u value list) ++ (row_of (walk_fact t u a) ∷ [])
one_more_fact t i u value list a = simp map-append

-- the first k actions are followed and told
pub record After (t : Study) (i u value : ℕ) (list : List ℕ) (facts : List FactRow) (n k q : ℕ) : Type 0 where
  pub inside : k ≤ length list
  pub is : q ≡ reached t u list k
  pub told : take n facts ≡ rows_of (past_facts t i u value (take k list))

-- where the loop stands in turn k
pub record Following (i u value first : ℕ) (acts : List Row) (steps : List ℕ) (facts : List FactRow) (n q k : ℕ) : Type 0 where
  pub some : (t : Study) × (list : List ℕ) × Past u acts steps t list × (first ≡ start_of t u)
  pub sized : length facts ≡ 288
  pub count : n ≡ k + 2
  pub after : (t : Study) (list : List ℕ) → Past u acts steps t list → first ≡ start_of t u → After t i u value list facts n k q

pub begins :
    {i u value first : ℕ} {acts : List Row} {steps : List ℕ} {facts : List FactRow} {n : ℕ}
    → (t : Study) × (list : List ℕ) × Past u acts steps t list × (first ≡ start_of t u)
    → length facts ≡ 288 → n ≡ 2
    → take n facts ≡ Wants i u value ∷ Start u first ∷ []
    → Following i u value first acts steps facts n first 0
begins some sized count told = record {
  some = some;
  sized = sized;
  count = omega arith;
  after = λ t list past is. record { inside = omega arith; is = is; told = told ∙ rw is };
}

module _
    {i u value first : ℕ} {acts : List Row} {steps : List ℕ} {facts : List FactRow} {n q k : ℕ}
    (following : Following i u value first acts steps facts n q k) where
  -- the value is one of a variable's
  pub value_low : (u < 32) × (q < 16)
  value_low =
      let (t, list, past, is) = following.some in
      let a = following.after t list past is in
      (low past, rw a.is (reached_small past k a.inside))

  -- a walk ends before the turns do
  pub few_turns : k < 16
  few_turns =
      let (t, list, past, is) = following.some in
      omega (arith, (following.after t list past is).inside, walk_short past)

  module _ {x y : ℕ} (is-u : x ≡ u) (is-q : y ≡ q) where
    same_step :
        (t : Study) (list : List ℕ) → After t i u value list facts n k q
        → get_or steps (16 * x + y) 0 ≡ get_or steps (16 * u + reached t u list k) 0
    same_step t list a = rw (is-u, is-q, a.is)

    pub ends :
        get_or steps (16 * x + y) 0 < 2 → (t : Study) (list : List ℕ) → Past u acts steps t list → first ≡ start_of t u
        → take n facts ≡ rows_of (past_facts t i u value list)
    ends small t list past is =
        let a = following.after t list past is in
        let e = ends_at past k a.inside (rw (same_step t list a) at small) in
        a.told ∙ rw (e, take-length list)

    module _ (large : 2 ≤ get_or steps (16 * x + y) 0) where
      -- the walk's next action
      next_inside : (t : Study) (list : List ℕ) → Past u acts steps t list → first ≡ start_of t u → k < length list
      next_inside t list past is =
          let a = following.after t list past is in
          goes_on_at past k a.inside (rw (same_step t list a) at large)

      next_is :
          (t : Study) (list : List ℕ) → Past u acts steps t list → first ≡ start_of t u
          → get_or steps (16 * x + y) 0 - 2 ≡ get_or list k 0
      next_is t list past is =
          let a = following.after t list past is in
          omega (arith, same_step t list a, step_on past k (next_inside t list past is))

      pub action_low : get_or steps (16 * x + y) 0 - 2 < 256
      action_low =
          let (t, list, past, is) = following.some in
          omega (
            arith,
            next_is t list past is,
            walk_there past.walk k (next_inside t list past is),
            past.lawful.few_actions,
          )

      pub goes_on :
          {facts' : List FactRow} {n' post : ℕ}
          → n' ≡ n + 1 → length facts' ≡ 288
          → post ≡ get_or (post_column acts) (get_or steps (16 * x + y) 0 - 2) 0
          → take n' facts' ≡ take n facts ++ (Walk u (get_or steps (16 * x + y) 0 - 2) q post ∷ [])
          → Following i u value first acts steps facts' n' post (suc k)
      goes_on {facts'} {n'} {post} count sized told-after told = record {
        some = following.some;
        sized = sized;
        count = omega (arith, following.count);
        after = one_more;
      }
        where
          one_more :
              (t : Study) (list : List ℕ) → Past u acts steps t list → first ≡ start_of t u
              → After t i u value list facts' n' (suc k) post
          one_more t list past is =
              let a = following.after t list past is in
              let b = next_inside t list past is in
              let e = next_is t list past is in
              let post_is : post ≡ post_of t (get_or list k 0) = told-after ∙ rw e (told_post past k b) in
              record {
                inside = b;
                is = post_is;
                told =
                    told
                    ∙ rw (
                      a.told,
                      e,
                      post_is,
                      a.is,
                      ← reached_left past.walk k b,
                      take-suc list k 0 b,
                      one_more_fact t i u value (take k list) (get_or list k 0),
                    );
              }
