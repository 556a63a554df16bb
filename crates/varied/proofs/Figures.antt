-- The figures of a report add up: plans and refusals to the seeds, each row to the plans; the different plans are some of the plans; and no figure is more than the seeds.
-- Assumes nothing.
use Prim.Native.Nat.{ℕ, zero, suc, ◌+◌, ◌*◌, ◌≤◌, ◌<◌}
use native.Mathlib.Nat.{mul-suc, mul-zero}
use native.Mathlib.Omega.{arith}
use native.Mathlib.Decide.{ℕ_discrete}
use mathlib.Core.Path.{◌≡◌, refl, ap, ◌∙◌}
use mathlib.Core.Logic.{◌⊎◌, inl, inr}
use mathlib.Core.Bool.{Bool, true, false, not}
use mathlib.Core.List.{List, [], ◌∷◌, ◌++◌, map}
use lib.Dec.{eqb}
use lib.ListN.{length, get_or, take, drop}
use lib.Seq.{take_at, drop-append-add}
use borrow.Author.Tests.{eq-eqb, ne_eqb}
use Rattle.answer.specs.declared.Answer.{Answer}
use Rattle.ranks.specs.Ranks.{one}
use Rattle.study.specs.Study.{Study}
use Rattle.lawful.specs.Lawful.{Lawful}
use Rattle.planning.specs.Refusals.{NoPlanCanBe}
use Rattle.varied.specs.Outcomes.{Outcome, planned, barred, Come}
use Rattle.varied.specs.Figures.{plans_among, refused_with, counted_refusals, is_among, different, standing, listed, rows, positions_of, report_of}
use Rattle.varied.proofs.Comes.{plan_of_actions}
use Rattle.varied.proofs.Alike.{AllPlans, AllBarred, barred_is_10_11_12, all_plans_or_all_barred}
use Rattle.varied.proofs.Told.{listed-length, none_planned, position_within}

abbrev pub total : List ℕ → ℕ
total [] = 0
total (x ∷ rest) = x + total rest

-- the figures of a position: a row behind the five figures and the rows of earlier positions
abbrev pub row_at : ℕ → ℕ → List ℕ → List ℕ
row_at actions at report = take actions (drop (5 + actions * at) report)

-- ---- plans and refusals

-- the counted refusals are 10, 11 and 12
counted_once : (n : ℕ) → 10 ≤ n → n ≤ 12 → one (eqb n 10) + (one (eqb n 11) + one (eqb n 12)) ≡ 1
counted_once n low high = go (ℕ_discrete n 10) (ℕ_discrete n 11) (ℕ_discrete n 12)
  where
    go : Dec (n ≡ 10) → Dec (n ≡ 11) → Dec (n ≡ 12) → one (eqb n 10) + (one (eqb n 11) + one (eqb n 12)) ≡ 1
    go (yes e) _ _ = rw e
    go (no _) (yes e) _ = rw e
    go (no _) (no _) (yes e) = rw e
    go (no a) (no b) (no c) = absurd (omega arith)

module _ {t : Study} (lawful : Lawful t) where
  seeds_counted :
      (first : ℕ) (outcomes : List Outcome) → Come t first outcomes
      → length (plans_among outcomes) + total (map (λ n. refused_with n outcomes) counted_refusals) ≡ length outcomes
  unfolding plans_among refused_with
  seeds_counted first [] come = refl
  seeds_counted first (planned list ∷ rest) (c, later) = omega (arith, seeds_counted (suc first) rest later)
  seeds_counted first (barred r ∷ rest) (c, later) =
      let (low, high) = barred_is_10_11_12 lawful c in
      omega (arith, counted_once r.number low high, seeds_counted (suc first) rest later)

  pub plans_and_refusals_add_up :
      (actions first : ℕ) (outcomes : List Outcome) → Come t first outcomes → total (take 4 (report_of actions outcomes)) ≡ length outcomes
  unfolding report_of
  plans_and_refusals_add_up actions = seeds_counted

-- ---- a row

-- a number is one of those in a row from k on, or none of them
single_none : (x k n : ℕ) → x < k → total (listed (λ i. one (eqb x i)) k n) ≡ 0
unfolding listed
single_none x k zero h = refl
single_none x k (suc n) h = omega (arith, ap one (ne_eqb x k (λ e. omega arith)), single_none x (suc k) n (omega arith))

single : (x k n : ℕ) → k ≤ x → x < k + n → total (listed (λ i. one (eqb x i)) k n) ≡ 1
unfolding listed
single x k zero low high = absurd (omega arith)
single x k (suc n) low high = go (ℕ_discrete x k) (single x (suc k) n)
  where
    go : Dec (x ≡ k) → (suc k ≤ x → x < suc k + n → total (listed (λ i. one (eqb x i)) (suc k) n) ≡ 1)
        → one (eqb x k) + total (listed (λ i. one (eqb x i)) (suc k) n) ≡ 1
    go (yes e) later = omega (arith, ap one (eq-eqb x k e), single_none x (suc k) n (omega arith))
    go (no d) later = omega (arith, ap one (ne_eqb x k d), later (omega arith) (omega arith))

nothing_standing : (at k n : ℕ) → total (listed (standing [] at) k n) ≡ 0
unfolding listed standing
nothing_standing at k zero = refl
nothing_standing at k (suc n) = omega (arith, nothing_standing at (suc k) n)

one_plan_more :
    (p : List ℕ) (rest : List (List ℕ)) (at k n : ℕ)
    → total (listed (standing (p ∷ rest) at) k n) ≡ total (listed (λ i. one (eqb (get_or p at 0) i)) k n) + total (listed (standing rest at) k n)
unfolding listed standing
one_plan_more p rest at k zero = refl
one_plan_more p rest at k (suc n) = omega (arith, one_plan_more p rest at (suc k) n)

-- what each plan has at the position is an action
abbrev EachActs : List (List ℕ) → ℕ → ℕ → Type 0
EachActs [] at actions = Unit {0}
EachActs (p ∷ rest) at actions = (get_or p at 0 < actions) × EachActs rest at actions

row_total : (plans : List (List ℕ)) (at actions : ℕ) → EachActs plans at actions → total (listed (standing plans at) 0 actions) ≡ length plans
row_total [] at actions each = nothing_standing at 0 actions
row_total (p ∷ rest) at actions (h, each) =
    omega (arith, one_plan_more p rest at 0 actions, single (get_or p at 0) 0 actions (omega arith) (omega arith), row_total rest at actions each)

row_of-rows :
    (plans : List (List ℕ)) (actions from positions at : ℕ) → at < positions
    → take actions (drop (actions * at) (rows plans actions from positions)) ≡ listed (standing plans (from + at)) 0 actions
unfolding rows
row_of-rows plans actions from zero at h = absurd (omega arith)
row_of-rows plans actions from (suc n) zero h =
    rw (mul-zero actions)
    (take_at (listed (standing plans from) 0 actions) (rows plans actions (suc from) n) actions (listed-length (standing plans from) 0 actions)
    ∙ ap (λ (p : ℕ). listed (standing plans p) 0 actions) (omega arith))
row_of-rows plans actions from (suc n) (suc at) h =
    let row = listed (standing plans from) 0 actions in
    let e : actions * suc at ≡ length row + actions * at = omega (arith, mul-suc actions at, listed-length (standing plans from) 0 actions) in
    rw (e, drop-append-add row (rows plans actions (suc from) n) (actions * at))
    (row_of-rows plans actions (suc from) n at (omega arith) ∙ ap (λ (p : ℕ). listed (standing plans p) 0 actions) (omega arith))

behind_five : (a b c d e n : ℕ) (rest : List ℕ) → drop (5 + n) (a ∷ b ∷ c ∷ d ∷ e ∷ rest) ≡ drop n rest
behind_five a b c d e n rest = drop-append-add (a ∷ b ∷ c ∷ d ∷ e ∷ []) rest n

pub row_of_report :
    (actions : ℕ) (outcomes : List Outcome) (at : ℕ) → at < positions_of (plans_among outcomes)
    → row_at actions at (report_of actions outcomes) ≡ listed (standing (plans_among outcomes) at) 0 actions
unfolding report_of
row_of_report actions outcomes at h =
    let plans = plans_among outcomes in
    ap (take actions) (behind_five (length plans) (refused_with 10 outcomes) (refused_with 11 outcomes) (refused_with 12 outcomes) (different plans)
    (actions * at) (rows plans actions 0 (positions_of plans)))
    ∙ row_of-rows plans actions 0 (positions_of plans) at h
    ∙ ap (λ (p : ℕ). listed (standing plans p) 0 actions) (omega arith)

module _ {t : Study} (lawful : Lawful t) where
  plans_act :
      (len at first : ℕ) (outcomes : List Outcome) → Come t first outcomes → AllPlans len outcomes → at < len
      → EachActs (plans_among outcomes) at (length t.actions)
  unfolding plans_among
  plans_act len at first [] come all h = tt
  plans_act len at first (planned list ∷ rest) (c, later) (e, all) h =
      (plan_of_actions lawful first c at (omega arith), plans_act len at (suc first) rest later all h)
  plans_act len at first (barred r ∷ rest) (c, later) (e, all) h = absurd e

  pub row_adds_up :
      (first : ℕ) (outcomes : List Outcome) → Come t first outcomes → (at : ℕ) → at < positions_of (plans_among outcomes)
      → total (row_at (length t.actions) at (report_of (length t.actions) outcomes)) ≡ length (plans_among outcomes)
  row_adds_up first outcomes come at h = rw (row_of_report actions outcomes at h) (go (all_plans_or_all_barred lawful first outcomes come))
    where
      actions : ℕ
      actions = length t.actions

      go : ((len : ℕ) × AllPlans len outcomes) ⊎ ((r : Answer) × (AllBarred r outcomes × NoPlanCanBe r))
          → total (listed (standing (plans_among outcomes) at) 0 actions) ≡ length (plans_among outcomes)
      go (inl (len, all)) =
          row_total (plans_among outcomes) at actions (plans_act len at first outcomes come all (position_within len at outcomes all h))
      go (inr (r, (all, bars))) = let none = none_planned (length outcomes) r in absurd (omega (arith, h, ap positions_of (ap plans_among all ∙ none)))

-- ---- different plans

one_at_most : (b : Bool) → one b ≤ 1
one_at_most true = omega arith
one_at_most false = omega arith

pub different_at_most_plans : (plans : List (List ℕ)) → different plans ≤ length plans
unfolding different
different_at_most_plans [] = omega arith
different_at_most_plans (p ∷ rest) = omega (arith, one_at_most (not (is_among p rest)), different_at_most_plans rest)

pub some_plan_different : (plans : List (List ℕ)) → 1 ≤ length plans → 1 ≤ different plans
unfolding different is_among
some_plan_different [] h = absurd (omega arith)
some_plan_different (p ∷ []) h = omega arith
some_plan_different (p ∷ q ∷ rest) h = omega (arith, some_plan_different (q ∷ rest) (omega arith))

pub different_within_plans :
    (actions : ℕ) (outcomes : List Outcome)
    → (get_or (report_of actions outcomes) 4 0 ≤ get_or (report_of actions outcomes) 0 0)
    × (1 ≤ get_or (report_of actions outcomes) 0 0 → 1 ≤ get_or (report_of actions outcomes) 4 0)
unfolding report_of
different_within_plans actions outcomes = (different_at_most_plans (plans_among outcomes), some_plan_different (plans_among outcomes))

-- ---- each figure is at most the number of seeds

abbrev AtMost : ℕ → List ℕ → Type 0
AtMost n [] = Unit {0}
AtMost n (x ∷ rest) = (x ≤ n) × AtMost n rest

figure_at_most : (n : ℕ) (figures : List ℕ) → AtMost n figures → (i : ℕ) → get_or figures i 0 ≤ n
figure_at_most n [] all i = omega arith
figure_at_most n (x ∷ rest) (h, all) zero = h
figure_at_most n (x ∷ rest) (h, all) (suc i) = figure_at_most n rest all i

both_at_most : (n : ℕ) (xs ys : List ℕ) → AtMost n xs → AtMost n ys → AtMost n (xs ++ ys)
both_at_most n [] ys f g = g
both_at_most n (x ∷ xs) ys (h, f) g = (h, both_at_most n xs ys f g)

listed_at_most : (n : ℕ) (f : ℕ → ℕ) → ((i : ℕ) → f i ≤ n) → (k m : ℕ) → AtMost n (listed f k m)
unfolding listed
listed_at_most n f h k zero = tt
listed_at_most n f h k (suc m) = (h k, listed_at_most n f h (suc k) m)

standing_at_most : (plans : List (List ℕ)) (at i : ℕ) → standing plans at i ≤ length plans
unfolding standing
standing_at_most [] at i = omega arith
standing_at_most (p ∷ rest) at i = omega (arith, one_at_most (eqb (get_or p at 0) i), standing_at_most rest at i)

plans_at_most : (outcomes : List Outcome) → length (plans_among outcomes) ≤ length outcomes
unfolding plans_among
plans_at_most [] = omega arith
plans_at_most (planned list ∷ rest) = omega (arith, plans_at_most rest)
plans_at_most (barred r ∷ rest) = omega (arith, plans_at_most rest)

refused_at_most : (k : ℕ) (outcomes : List Outcome) → refused_with k outcomes ≤ length outcomes
unfolding refused_with
refused_at_most k [] = omega arith
refused_at_most k (planned list ∷ rest) = omega (arith, refused_at_most k rest)
refused_at_most k (barred r ∷ rest) = omega (arith, one_at_most (eqb r.number k), refused_at_most k rest)

rows_at_most : (n : ℕ) (plans : List (List ℕ)) → length plans ≤ n → (actions at positions : ℕ) → AtMost n (rows plans actions at positions)
unfolding rows
rows_at_most n plans h actions at zero = tt
rows_at_most n plans h actions at (suc m) =
    both_at_most n (listed (standing plans at) 0 actions) (rows plans actions (suc at) m)
    (listed_at_most n (standing plans at) (λ i. omega (arith, standing_at_most plans at i)) 0 actions)
    (rows_at_most n plans h actions (suc at) m)

refusals_at_most : (outcomes : List Outcome) (numbers : List ℕ) → AtMost (length outcomes) (map (λ k. refused_with k outcomes) numbers)
refusals_at_most outcomes [] = tt
refusals_at_most outcomes (k ∷ rest) = (refused_at_most k outcomes, refusals_at_most outcomes rest)

report_at_most : (actions : ℕ) (outcomes : List Outcome) → AtMost (length outcomes) (report_of actions outcomes)
unfolding report_of
report_at_most actions outcomes = (
  few,
  both_at_most n refusals (different plans ∷ rows plans actions 0 (positions_of plans)) (refusals_at_most outcomes counted_refusals) others,
)
  where
    n : ℕ
    n = length outcomes

    plans : List (List ℕ)
    plans = plans_among outcomes

    refusals : List ℕ
    refusals = map (λ k. refused_with k outcomes) counted_refusals

    few : length plans ≤ n
    few = plans_at_most outcomes

    others : AtMost n (different plans ∷ rows plans actions 0 (positions_of plans))
    others = (omega (arith, few, different_at_most_plans plans), rows_at_most n plans few actions 0 (positions_of plans))

pub figures_at_most_seeds : (actions : ℕ) (outcomes : List Outcome) (i : ℕ) → get_or (report_of actions outcomes) i 0 ≤ length outcomes
figures_at_most_seeds actions outcomes = figure_at_most (length outcomes) (report_of actions outcomes) (report_at_most actions outcomes)
