-- Planning answers 0 or 13 where there is a straight plan and 10, 11 or 12 where there is none; with 0, what stands in the buffer is the first plan.
-- Assumes nothing.
use Prim.Native.Nat.{ℕ, ◌≤◌}
use native.Mathlib.Omega.{arith}
use mathlib.Core.Path.{◌≡◌, refl}
use mathlib.Core.Logic.{◌⊎◌, inl, inr, ◌≢◌, ◌↔◌}
use mathlib.Core.List.{List}
use lib.ListN.{length, take, drop}
use lib.Seq.{take-append_seam, drop-append_seam}
use Rattle.answer.specs.declared.Answer.{Answer}
use Rattle.ranks.specs.Ranks.{RankList}
use Rattle.ranking.proofs.Fine.{rank_list_is_fine}
use Rattle.study.specs.Study.{Study}
use Rattle.lawful.specs.Lawful.{Lawful}
use Rattle.plans.specs.Plans.{StraightPlan}
use Rattle.planning.specs.Refusals.{NoPlanCanBe}
use Rattle.planning.specs.Planning.{FirstPlan, Plans}
use Rattle.planning.proofs.Found.{straight_equally_long}
use Rattle.planning.proofs.Ways.{short, fits, Way, at_fault, barred, planned, way_of, barred-number, barred_has_none}

module _ {t : Study} {ranks before : List ℕ} where
  -- ---- there is a straight plan with 0 and with 13, and none with 10, 11 and 12

  pub answer_0_or_13_has_plan :
      {r : Answer} {after : List ℕ} → Plans t ranks before r after → (r.number ≡ 0) ⊎ (r.number ≡ 13) → (list : List ℕ) × StraightPlan t list
  answer_0_or_13_has_plan p = from (way_of p)
    where
      from : {r : Answer} {after : List ℕ} → Way t ranks before r after → (r.number ≡ 0) ⊎ (r.number ≡ 13) → (list : List ℕ) × StraightPlan t list
      from (at_fault f) (inl h) = absurd (omega arith)
      from (at_fault f) (inr h) = absurd (omega arith)
      from (barred fine b) (inl h) = absurd (omega (arith, barred-number b))
      from (barred fine b) (inr h) = absurd (omega (arith, barred-number b))
      from (planned {list = list} fine p l) h = (list, p.straight)

  pub answer_10_11_12_has_none :
      {r : Answer} {after : List ℕ} → Lawful t → Plans t ranks before r after → NoPlanCanBe r → (list : List ℕ) → StraightPlan t list → ⊥
  answer_10_11_12_has_none lawful p = from (way_of p)
    where
      from : {r : Answer} {after : List ℕ} → Way t ranks before r after → NoPlanCanBe r → (list : List ℕ) → StraightPlan t list → ⊥
      from (at_fault f) h list p = omega arith
      from (barred fine b) h list p = barred_has_none lawful b p
      from (planned fine q (short l)) h list p = omega arith
      from (planned fine q (fits l)) h list p = omega arith

  -- ---- with 0, the first plan fills the first bytes and later bytes stay; with any other number no byte is altered

  pub answer_0_is_first : {r : Answer} {after : List ℕ} → Plans t ranks before r after → r.number ≡ 0 → FirstPlan t ranks (take r.first after)
  answer_0_is_first p = from (way_of p)
    where
      from : {r : Answer} {after : List ℕ} → Way t ranks before r after → r.number ≡ 0 → FirstPlan t ranks (take r.first after)
      from (at_fault f) h = absurd (omega arith)
      from (barred fine b) h = absurd (omega (arith, barred-number b))
      from (planned fine p (short l)) h = absurd (omega arith)
      from (planned {list = list} fine p (fits l)) h = rw (take-append_seam list (drop (length list) before)) p

  pub answer_0_leaves_rest : {r : Answer} {after : List ℕ} → Plans t ranks before r after → r.number ≡ 0 → drop r.first after ≡ drop r.first before
  answer_0_leaves_rest p = from (way_of p)
    where
      from : {r : Answer} {after : List ℕ} → Way t ranks before r after → r.number ≡ 0 → drop r.first after ≡ drop r.first before
      from (at_fault f) h = absurd (omega arith)
      from (barred fine b) h = absurd (omega (arith, barred-number b))
      from (planned fine p (short l)) h = absurd (omega arith)
      from (planned {list = list} fine p (fits l)) h = drop-append_seam list (drop (length list) before)

  pub refusal_alters_nothing : {r : Answer} {after : List ℕ} → Plans t ranks before r after → r.number ≢ 0 → after ≡ before
  refusal_alters_nothing p = from (way_of p)
    where
      from : {r : Answer} {after : List ℕ} → Way t ranks before r after → r.number ≢ 0 → after ≡ before
      from (at_fault f) h = refl
      from (barred fine b) h = refl
      from (planned fine p (short l)) h = refl
      from (planned fine p (fits l)) h = absurd (h refl)

  pub rank_list_not_9 : RankList (length t.actions) ranks → {r : Answer} {after : List ℕ} → Plans t ranks before r after → r.number ≢ 9
  rank_list_not_9 rank_list p = from (way_of p)
    where
      from : {r : Answer} {after : List ℕ} → Way t ranks before r after → r.number ≢ 9
      from (at_fault f) h = rw (rank_list_is_fine rank_list) at f
      from (barred fine b) h = omega (arith, barred-number b)
      from (planned fine p (short l)) h = omega arith
      from (planned fine p (fits l)) h = omega arith

  -- ---- with a rank list and room, 0 exactly if there is a straight plan

  module _ (lawful : Lawful t) (rank_list : RankList (length t.actions) ranks) where
    pub plan_found :
        {r : Answer} {after list : List ℕ} → Plans t ranks before r after → StraightPlan t list → length list ≤ length before → r.number ≡ 0
    plan_found {list = list} p q room = from (way_of p)
      where
        from : {r : Answer} {after : List ℕ} → Way t ranks before r after → r.number ≡ 0
        from (at_fault f) = absurd (rw (rank_list_is_fine rank_list) at f)
        from (barred fine b) = absurd (barred_has_none lawful b q)
        from (planned fine p (short l)) = absurd (omega (arith, straight_equally_long lawful p.straight q))
        from (planned fine p (fits l)) = refl

    module _ (room : (other : List ℕ) → StraightPlan t other → length other ≤ length before) {r : Answer} {after : List ℕ} (p : Plans t ranks before r after) where
      pub answered_exactly_when_some : (r.number ≡ 0) ↔ ((list : List ℕ) × StraightPlan t list)
      answered_exactly_when_some = (λ h. answer_0_or_13_has_plan p (inl h), λ q. plan_found p q.1 (room q.0 q.1))

      pub refused_exactly_when_none : (r.number ≢ 0) ↔ ((list : List ℕ) → StraightPlan t list → ⊥)
      refused_exactly_when_none = (
        λ h list q. h (answered_exactly_when_some.1 (list, q)),
        λ none h. let (list, q) = answered_exactly_when_some.0 h in none list q,
      )
