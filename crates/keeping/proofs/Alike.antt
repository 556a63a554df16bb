-- What was taken with a seed is its plan or its refusal, and once one gives a plan each does; kept, one seed after another.
-- Assumes nothing.
use mathlib.Core.Path.{◌≡◌, refl, sym, ap, ◌∙◌, subst}
use mathlib.Core.List.{List, [], ◌∷◌, ◌++◌}
use Prim.Native.Nat.{ℕ, zero, suc, ◌+◌, ◌*◌, ◌≤◌, ◌<◌}
use native.Mathlib.Omega.{arith}
use native.Mathlib.Decide.{dec_lt}
use lib.ListN.{length, get_or, take, drop, length-append, length-drop, length-replicate}
use lib.Seq.{get_or-drop, take_at, length-take-le}
use Rattle.answer.specs.Answers.{done}
use Rattle.draw.specs.Draw.{drawn}
use Rattle.draw.proofs.Drawn.{drawn_is_rank_list}
use Rattle.ranking.proofs.Fine.{rank_list_is_fine}
use Rattle.study.specs.Study.{Study}
use Rattle.lawful.specs.Lawful.{Lawful}
use Rattle.planning.specs.Planning.{LowestWithout, Plans, no_walk}
use Rattle.planning.specs.Refusals.{without_walk, with_ring}
use Rattle.handing.specs.Handing.{Taken}
use Rattle.handing.proofs.Outcomes.{few_in_all, fewer_is_ring, fits}
use Rattle.varied.specs.Outcomes.{Outcome, planned, barred, any_room, ComesTo, Come}
use Rattle.varied.specs.Figures.{plans_among}
use Rattle.varied.proofs.Comes.{comes_to_lem, come_more, plan_of_actions, answer_0_told, refusal-told}
use Rattle.varied.proofs.Alike.{AllPlans, plan_then_plans}
use Rattle.varied.proofs.Told.{plans_among-length, plans_among_more, all_plans_more}
use Rattle.matching.specs.Kept.{plan_at, Kept, KeptBelow}
use Rattle.matching.proofs.Keeping.{none_kept, kept_below}
use Rattle.keeping.specs.Seeds.{KeptAll}

-- what stands in the room from 256 on is as long as a plan
pub plan_long : {total : ℕ} → total ≤ 256 → (room : List ℕ) → length room ≡ 512 → length (take total (drop 256 room)) ≡ total
plan_long {total} few room sized = length-take-le total (drop 256 room) (omega (arith, length-drop 256 room))

any_room_lem : 256 ≤ length any_room
any_room_lem = omega (arith, length-replicate {A = ℕ} 256 0)

-- what was taken with a seed is its plan, if it is all that is on walks; or its refusal
module _
    {t : Study} (seed : ℕ) {total k : ℕ} {room : List ℕ} (taken : Taken t (drawn seed (length t.actions)) total k room)
    (sized : length room ≡ 512) (within : k ≤ total)
  where
    pub taken_few : total ≤ 256
    taken_few = omega (arith, few_in_all taken.lawful taken.members, taken.counted)

    pub ring_comes : k < total → ComesTo t seed (barred (with_ring k))
    ring_comes h =
        subst (ComesTo t seed) (refusal-told (with_ring k) any_room (λ e. omega arith))
        (comes_to_lem taken.lawful seed any_room_lem (fewer_is_ring taken sized within any_room h))

    pub plan_comes : total ≤ k → ComesTo t seed (planned (take total (drop 256 room)))
    plan_comes h =
        subst (λ (list : List ℕ). ComesTo t seed (planned list)) (take_at (take total (drop 256 room)) (drop total any_room) total (plan_long taken_few room sized))
        (subst (ComesTo t seed) (answer_0_told (done total 0) _ refl)
        (comes_to_lem taken.lawful seed any_room_lem (fits taken sized within h any_room (omega (arith, taken_few, any_room_lem)))))

    -- if another seed gives a plan, this one does
    pub later_comes : {first : ℕ} {plan : List ℕ} → ComesTo t first (planned plan) → ComesTo t seed (planned (take total (drop 256 room)))
    later_comes comes = go (dec_lt k total)
      where
        go : Dec (k < total) → ComesTo t seed (planned (take total (drop 256 room)))
        go (yes h) = absurd (plan_then_plans taken.lawful comes seed (barred (with_ring k) ∷ []) (ring_comes h, tt)).0
        go (no n) = plan_comes (omega arith)

-- ---- keeping them

none_yet : (t : Study) (first len base stride : ℕ) (region : List ℕ) → KeptAll t first 0 len base stride region
unfolding plans_among
none_yet t first len base stride region = record { outcomes = []; each = refl; come = tt; plans = tt; kept = none_kept region base stride len }

pub one_more_kept :
    {t : Study} {first k len base stride : ℕ} {region after plan : List ℕ} → KeptAll t first k len base stride region
    → ComesTo t (first + k) (planned plan) → length plan ≡ len
    → ((plans : List (List ℕ)) → length plans ≡ k → Kept region base stride len plans → Kept after base stride len (plans ++ (plan ∷ [])))
    → KeptAll t first (k + 1) len base stride after
one_more_kept {t} {first} {k} {len} {base} {stride} {after = after} {plan = plan} all c is-long ensured = record {
  outcomes = all.outcomes ++ (planned plan ∷ []);
  each = omega (arith, length-append all.outcomes (planned plan ∷ []), all.each);
  come = come_more first all.outcomes all.come (subst (λ (seed : ℕ). ComesTo t seed (planned plan)) (omega (arith, all.each)) c);
  plans = all_plans_more len all.outcomes plan all.plans is-long;
  kept =
      subst (Kept after base stride len) (sym (plans_among_more all.outcomes plan))
      (ensured (plans_among all.outcomes) (plans_among-length len all.outcomes all.plans ∙ all.each) all.kept);
}

pub first_kept :
    {t : Study} {first len base stride : ℕ} {region after plan : List ℕ} → ComesTo t first (planned plan) → length plan ≡ len
    → ((plans : List (List ℕ)) → length plans ≡ 0 → Kept region base stride len plans → Kept after base stride len (plans ++ (plan ∷ [])))
    → KeptAll t first 1 len base stride after
first_kept {t} {first} {len} {base} {stride} {region} {plan = plan} c is-long ensured =
    one_more_kept (none_yet t first len base stride region) (subst (λ (seed : ℕ). ComesTo t seed (planned plan)) (omega arith) c) is-long ensured

-- ---- what is kept are actions

all_below :
    {t : Study} → Lawful t → (first len : ℕ) (outcomes : List Outcome) → Come t first outcomes → AllPlans len outcomes
    → (k p : ℕ) → k < length (plans_among outcomes) → p < len → get_or (plan_at (plans_among outcomes) k) p 0 < length t.actions
unfolding plans_among
all_below lawful first len [] come plans k p h g = absurd (omega arith)
all_below lawful first len (planned list ∷ rest) (c, later) (e, plans) zero p h g = plan_of_actions lawful first c p (omega arith)
all_below lawful first len (planned list ∷ rest) (c, later) (e, plans) (suc k) p h g =
    all_below lawful (suc first) len rest later plans k p (omega arith) g
all_below lawful first len (barred r ∷ rest) (c, later) (e, plans) k p h g = absurd e

module _ {t : Study} {first seeds len base stride : ℕ} {region : List ℕ} (all : KeptAll t first seeds len base stride region) where
  pub as_many_plans : length (plans_among all.outcomes) ≡ seeds
  as_many_plans = plans_among-length len all.outcomes all.plans ∙ all.each

  -- what is kept are actions, with other bytes in front too
  pub actions_kept :
      {limit : ℕ} {after : List ℕ} → limit ≡ length t.actions → Lawful t → Kept after base stride len (plans_among all.outcomes)
      → KeptBelow limit seeds base stride len after
  actions_kept {limit} {after} is-limit lawful kept =
      subst (λ (n : ℕ). KeptBelow limit n base stride len after) as_many_plans
      (subst (λ (m : ℕ). KeptBelow m (length (plans_among all.outcomes)) base stride len after) (sym is-limit)
      (kept_below (length t.actions) kept (all_below lawful first len all.outcomes all.come all.plans)))

-- five figures stored in front
pub headed_kept :
    {t : Study} {first seeds len stride : ℕ} {region after : List ℕ} {x0 x1 x2 x3 x4 : ℕ} → (all : KeptAll t first seeds len 5 stride region)
    → after ≡ x0 ∷ x1 ∷ x2 ∷ x3 ∷ x4 ∷ drop 5 region → Kept after 5 stride len (plans_among all.outcomes)
headed_kept {stride = stride} {region = region} {after = after} all heads = record {
  even = all.kept.even;
  stands = λ k p h g. moved (stride * p + k) (5 + stride * p + k) (omega arith) ∙ all.kept.stands k p h g;
}
  where
    moved : (i at : ℕ) → at ≡ 5 + i → get_or after at 0 ≡ get_or region at 0
    moved i at e =
        rw e (sym (get_or-drop 5 after i 0) ∙ ap (λ (l : List ℕ). get_or (drop 5 l) i 0) heads ∙ get_or-drop 5 region i 0)

-- a variable without a walk bars every seed
pub without_comes : {t : Study} {v b : ℕ} → Lawful t → (seed : ℕ) → LowestWithout t v b → ComesTo t seed (barred (without_walk v b))
without_comes {t} {v} {b} lawful seed lowest =
    subst (ComesTo t seed) (refusal-told (without_walk v b) any_room (λ e. omega arith)) (comes_to_lem lawful seed any_room_lem answers)
  where
    answers : Plans t (drawn seed (length t.actions)) any_room (without_walk v b) any_room
    answers = no_walk (rank_list_is_fine (drawn_is_rank_list seed (length t.actions))) lowest
