-- The conditions of one action, one after another: of those left, the lowest that sets what a condition so far wants.
-- Assumes nothing.
use mathlib.Core.Path.{◌≡◌, refl, sym, ◌∙◌}
use mathlib.Core.Logic.{◌⊎◌, inl, inr, ◌≢◌}
use mathlib.Core.List.{List}
use Prim.Native.Nat.{ℕ, ◌+◌, ◌*◌, ◌≤◌, ◌<◌}
use native.Mathlib.Omega.{arith}
use native.Mathlib.Decide.{dec_lt}
use lib.ListN.{length, get_or}
use Rattle.study.specs.Study.{Condition, Study, condition_at}
use Rattle.tables.specs.declared.Act.{Act}
use Rattle.walks.specs.Walks.{var_of, post_of, conditions_of, start_of, Wants}
use Rattle.walks.proofs.Leads.{on_walk_usable}
use Rattle.walks.proofs.Wanted.{wanted-each}
use Rattle.wanting.specs.Wanting.{StandAt}
use Rattle.wanting.proofs.Conditions.{Here, wants_at, stands_here, condition_there}
use Rattle.explained.specs.Rings.{Stuck}
use Rattle.explained.specs.Wanters.{Sets}
use Rattle.ringing.specs.Stranded.{Stranded, Opened}
use Rattle.circling.specs.Lowest.{LowerOf, LowestBelow}
use Rattle.ringing.proofs.Befores.{stuck_on_walk, sets_no_start, value_is_set, set_by_named}
use Rattle.circling.proofs.Lowest.{lowest_of_none, lowest_of_one, lowest_of_both, lowest_in_other_words}

-- action i sets what condition k of action j wants
abbrev pub SetsCondition : Study → ℕ → ℕ → ℕ → Type 0
SetsCondition t j k i = ((condition_at (conditions_of t j) k).var ≡ var_of t i) × ((condition_at (conditions_of t j) k).value ≡ post_of t i)

-- .. what one of the first k does
abbrev pub SetsOneOf : Study → ℕ → ℕ → ℕ → Type 0
SetsOneOf t j k i = (m : ℕ) × ((m < k) × SetsCondition t j m i)

module _ (t : Study) (j : ℕ) where
  one_of_next : {k : ℕ} (i : ℕ) → SetsOneOf t j k i ⊎ SetsCondition t j k i → SetsOneOf t j (k + 1) i
  one_of_next i (inl (m, (h, s))) = (m, (omega arith, s))
  one_of_next {k} i (inr s) = (k, (omega arith, s))

  one_of_cases : {k : ℕ} (i : ℕ) → SetsOneOf t j (k + 1) i → SetsOneOf t j k i ⊎ SetsCondition t j k i
  one_of_cases {k} i (m, (h, s)) = from (dec_lt m k)
    where
      from : Dec (m < k) → SetsOneOf t j k i ⊎ SetsCondition t j k i
      from (yes l) = inl (m, (l, s))
      from (no n) = let e : m ≡ k = omega arith in inr (rw e at s)

  one_of_all : (i : ℕ) → SetsOneOf t j (length (conditions_of t j)) i → Wants (conditions_of t j) (var_of t i) (post_of t i)
  one_of_all i (m, (h, (e, f))) = rw (e, f) at (wants_at (conditions_of t j) m h)

  wanted_is_one_of : (i : ℕ) → Wants (conditions_of t j) (var_of t i) (post_of t i) → SetsOneOf t j (length (conditions_of t j)) i
  wanted_is_one_of i w =
      wanted-each (λ v q. v ≡ var_of t i → q ≡ post_of t i → SetsOneOf t j (length (conditions_of t j)) i) (conditions_of t j)
      (λ k h e f. (k, (h, (e, f)))) (var_of t i) (post_of t i) w refl refl

-- an opened action of a lawful study has its conditions where the file has them
pub stand_at :
    {file firsts setters : List ℕ} {sets : Sets} {left : List ℕ} {act : Act} {t : Study} {j : ℕ}
    → Stranded file firsts setters sets left t → Opened file act t j → StandAt file act.place act.many t j
stand_at s opened = record { lawful = s.lawful; there = opened.there; holds = opened.conditions }

-- where the pass stands
pub record Seeking (file firsts setters left : List ℕ) (place many from low at k : ℕ) : Type 0 where
  pub some : (t : Study) × (j : ℕ) × (sets : Sets) × Stranded file firsts setters sets left t × StandAt file place many t j
  pub few : k ≤ many
  pub is_at : at ≡ place + 3 * k
  pub so_far_lem :
      (t : Study) (j : ℕ) (sets : Sets) → Stranded file firsts setters sets left t → StandAt file place many t j → Stuck t j
      → LowestBelow t (SetsOneOf t j k) from low

pub begins :
    {file firsts setters left : List ℕ} {place many from : ℕ}
    → (t : Study) × (j : ℕ) × (sets : Sets) × Stranded file firsts setters sets left t × StandAt file place many t j
    → Seeking file firsts setters left place many from from place 0
begins some = record {
  some = some;
  few = omega arith;
  is_at = omega arith;
  so_far_lem = λ t j sets s d b. lowest_of_none (λ i c (m, (h, e)). omega arith);
}

module _
    {file firsts setters left : List ℕ} {place many from low at k : ℕ}
    (seeking : Seeking file firsts setters left place many from low at k) (h : k < many) where
  -- a condition that fits the tables stands here
  pub here : (c : Condition) × Here file at c
  here = let (t, j, sets, s, stand) = seeking.some in (condition_at (conditions_of t j) k, stands_here stand at k seeking.is_at h)

  pub goes_on :
      {r : ℕ}
      → ((t : Study) (j : ℕ) (sets : Sets) → Stranded file firsts setters sets left t → StandAt file place many t j → Stuck t j
      → LowestBelow t (SetsCondition t j k) low r)
      → Seeking file firsts setters left place many from r (at + 3) (k + 1)
  goes_on one = record {
    some = seeking.some;
    few = omega arith;
    is_at = omega (arith, seeking.is_at);
    so_far_lem = λ t j sets s d b. lowest_in_other_words (one_of_next t j) (one_of_cases t j) (lowest_of_both (seeking.so_far_lem t j sets s d b) (one t j sets s d b));
  }

  module _ {x y : ℕ} (is_var : x ≡ get_or file (at + 1) 0) (is-value : y ≡ get_or file (at + 2) 0) where
    module _ (t : Study) (j : ℕ) (sets : Sets) (s : Stranded file firsts setters sets left t) (stand : StandAt file place many t j) (b : Stuck t j) where
      var_here : (condition_at (conditions_of t j) k).var ≡ x
      var_here = sym (is_var ∙ (stands_here stand at k seeking.is_at h).var)

      value_here : (condition_at (conditions_of t j) k).value ≡ y
      value_here = sym (is-value ∙ (stands_here stand at k seeking.is_at h).value)

      first_here : get_or firsts x 0 ≡ start_of t x
      first_here = s.starts x (rw var_here at (condition_there stand k h))

      wanted_here : Wants (conditions_of t j) x y
      wanted_here = rw (var_here, value_here) at (wants_at (conditions_of t j) k (omega (arith, stand.holds.count)))

      lowest_here_none : y ≡ get_or firsts x 0 → LowestBelow t (SetsCondition t j k) low low
      lowest_here_none e =
          lowest_of_none λ i c (f, g).
          sets_no_start (stuck_on_walk c) (sym f ∙ var_here) (sym g ∙ value_here) (e ∙ first_here)

      lowest_here : {r : ℕ} → y ≢ get_or firsts x 0 → LowerOf left low (get_or setters (16 * x + y) 0) r → LowestBelow t (SetsCondition t j k) low r
      lowest_here off lower =
          let (i, set) = value_is_set (s.met j (stuck_on_walk b) x y wanted_here) (λ e. off (e ∙ sym first_here)) in
          let named = set_by_named s set in
          lowest_of_one s.left_are (omega (arith, s.lawful.few_actions, set.usable.there))
          (var_here ∙ sym set.var, value_here ∙ sym set.post)
          (λ m c (f, g). sym (set_by_named s (record { usable = on_walk_usable (stuck_on_walk c); var = sym f ∙ var_here; post = sym g ∙ value_here })) ∙ named)
          (rw named at lower)

    pub passes_start : y ≡ get_or firsts x 0 → Seeking file firsts setters left place many from low (at + 3) (k + 1)
    passes_start e = goes_on (λ t j sets s stand b. lowest_here_none t j sets s stand b e)

    pub passes_set :
        {r : ℕ} → y ≢ get_or firsts x 0 → LowerOf left low (get_or setters (16 * x + y) 0) r
        → Seeking file firsts setters left place many from r (at + 3) (k + 1)
    passes_set off lower = goes_on (λ t j sets s stand b. lowest_here t j sets s stand b off lower)

pub ends :
    {file firsts setters left : List ℕ} {place many from low at k : ℕ}
    → Seeking file firsts setters left place many from low at k → many ≤ k
    → (t : Study) (j : ℕ) (sets : Sets) → Stranded file firsts setters sets left t → StandAt file place many t j → Stuck t j
    → LowestBelow t (λ i. Wants (conditions_of t j) (var_of t i) (post_of t i)) from low
ends {k = k} seeking h t j sets s stand b =
    let e : k ≡ length (conditions_of t j) = omega (arith, seeking.few, stand.holds.count) in
    lowest_in_other_words (one_of_all t j) (wanted_is_one_of t j) (rw e at (seeking.so_far_lem t j sets s stand b))
