-- Seeds come to the same: all give a plan, equally long, or all are refused with the same three numbers.
-- Assumes nothing.
use Prim.Native.Nat.{ℕ, zero, suc}
use mathlib.Core.Path.{◌≡◌, refl, ap}
use mathlib.Core.Logic.{◌⊎◌, inl, inr}
use mathlib.Core.List.{List, [], ◌∷◌}
use lib.ListN.{length, replicate}
use Rattle.answer.specs.declared.Answer.{Answer}
use Rattle.study.specs.Study.{Study}
use Rattle.lawful.specs.Lawful.{Lawful}
use Rattle.planning.specs.Refusals.{NoPlanCanBe}
use Rattle.planning.proofs.Found.{straight_equally_long}
use Rattle.planning.proofs.Determined.{barred_determined}
use Rattle.planning.proofs.Ways.{barred-number, barred_has_none}
use Rattle.varied.specs.Outcomes.{Outcome, planned, barred, ComesTo, Come}
use Rattle.varied.proofs.Comes.{Yields, a_first_plan, a_bar, yields, comes}

-- ---- what all outcomes are

abbrev pub PlanOf : ℕ → Outcome → Type 0
PlanOf len (planned list) = length list ≡ len
PlanOf len (barred r) = ⊥

-- each is a plan so long
abbrev pub AllPlans : ℕ → List Outcome → Type 0
AllPlans len [] = Unit {0}
AllPlans len (o ∷ rest) = PlanOf len o × AllPlans len rest

-- each is this refusal
abbrev pub AllBarred : Answer → List Outcome → Type 0
AllBarred r outcomes = outcomes ≡ replicate (length outcomes) (barred r)

abbrev pub Among : {A : Type 0} → A → List A → Type 0
Among x [] = ⊥
Among x (y ∷ rest) = (x ≡ y) ⊎ Among x rest

module _ {t : Study} (lawful : Lawful t) where
  -- ---- two seeds

  plan_and_plan : {seed other : ℕ} {list : List ℕ} {o : Outcome} → Yields t seed (planned list) → Yields t other o → PlanOf (length list) o
  plan_and_plan (a_first_plan p) (a_first_plan q) = straight_equally_long lawful q.straight p.straight
  plan_and_plan (a_first_plan p) (a_bar b) = barred_has_none lawful b p.straight

  bar_and_bar : {seed other : ℕ} {r : Answer} {o : Outcome} → Yields t seed (barred r) → Yields t other o → o ≡ barred r
  bar_and_bar (a_bar b) (a_first_plan p) = absurd (barred_has_none lawful b p.straight)
  bar_and_bar (a_bar b) (a_bar c) = ap barred (barred_determined lawful c b)

  -- ---- one seed, and some in a row

  -- where one seed gives a plan, each gives one as long
  pub plan_then_plans :
      {seed : ℕ} {list : List ℕ} → ComesTo t seed (planned list) → (first : ℕ) (outcomes : List Outcome) → Come t first outcomes
      → AllPlans (length list) outcomes
  plan_then_plans c first [] none = tt
  plan_then_plans {seed} c first (o ∷ rest) (d, later) =
      (plan_and_plan (yields lawful seed c) (yields lawful first d), plan_then_plans c (suc first) rest later)

  -- where one is refused, each is, alike
  pub barred_then_barred :
      {seed : ℕ} {r : Answer} → ComesTo t seed (barred r) → (first : ℕ) (outcomes : List Outcome) → Come t first outcomes → AllBarred r outcomes
  barred_then_barred c first [] none = refl
  barred_then_barred {seed} c first (o ∷ rest) (d, later) =
      let e = bar_and_bar (yields lawful seed c) (yields lawful first d) in
      let f = barred_then_barred c (suc first) rest later in
      cc

  -- .. with 10, 11 or 12
  pub barred_is_10_11_12 : {seed : ℕ} {r : Answer} → ComesTo t seed (barred r) → NoPlanCanBe r
  barred_is_10_11_12 {seed} c = from (yields lawful seed c)
    where
      from : {r : Answer} → Yields t seed (barred r) → NoPlanCanBe r
      from (a_bar b) = barred-number b

  -- .. so that no other seed need be tried
  pub barred_comes : {seed : ℕ} {r : Answer} → ComesTo t seed (barred r) → (first n : ℕ) → Come t first (replicate n (barred r))
  barred_comes c first zero = tt
  barred_comes {seed} {r} c first (suc n) = (comes lawful first (again (yields lawful seed c)), barred_comes c (suc first) n)
    where
      again : {r : Answer} → Yields t seed (barred r) → Yields t first (barred r)
      again (a_bar b) = a_bar b

  -- ---- the theorem: over the outcomes of seeds in a row

  comes_among :
      (first : ℕ) (outcomes : List Outcome) (o : Outcome) → Come t first outcomes → Among o outcomes → (seed : ℕ) × ComesTo t seed o
  comes_among first [] o _ among = elim among [ ]
  comes_among first (other ∷ rest) o (c, later) (inl e) = (first, rw e c)
  comes_among first (other ∷ rest) o (c, later) (inr h) = comes_among (suc first) rest o later h

  module _ (first : ℕ) (outcomes : List Outcome) (come : Come t first outcomes) where
    pub one_plan_all_plans : (list : List ℕ) → Among (planned list) outcomes → AllPlans (length list) outcomes
    one_plan_all_plans list h = plan_then_plans (comes_among first outcomes (planned list) come h).1 first outcomes come

    pub one_barred_all_barred : (r : Answer) → Among (barred r) outcomes → AllBarred r outcomes × NoPlanCanBe r
    one_barred_all_barred r h =
        let (seed, c) = comes_among first outcomes (barred r) come h in
        (barred_then_barred c first outcomes come, barred_is_10_11_12 c)

  pub all_plans_or_all_barred :
      (first : ℕ) (outcomes : List Outcome) → Come t first outcomes
      → ((len : ℕ) × AllPlans len outcomes) ⊎ ((r : Answer) × (AllBarred r outcomes × NoPlanCanBe r))
  all_plans_or_all_barred first [] come = inl (0, tt)
  all_plans_or_all_barred first (planned list ∷ rest) come =
      inl (length list, one_plan_all_plans first (planned list ∷ rest) come list (inl refl))
  all_plans_or_all_barred first (barred r ∷ rest) come = inr (r, one_barred_all_barred first (barred r ∷ rest) come r (inl refl))
