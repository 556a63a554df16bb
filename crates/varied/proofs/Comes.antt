-- What planning comes to with a seed: the first plan or what bars every plan, whatever buffer of 256 bytes or more was lent. And one more seed behind some.
-- Assumes nothing.
use Prim.Native.Nat.{ℕ, suc, ◌+◌, ◌≤◌, ◌<◌}
use native.Mathlib.Omega.{arith}
use mathlib.Core.Path.{◌≡◌, refl, ap, ◌∙◌, subst}
use mathlib.Core.Logic.{◌≢◌}
use mathlib.Core.List.{List, [], ◌∷◌, ◌++◌}
use lib.ListN.{length, get_or, take, drop}
use lib.Seq.{take-append_seam}
use borrow.Author.Tests.{eq-eqb, ne_eqb}
use Rattle.answer.specs.Answers.{done}
use Rattle.answer.specs.declared.Answer.{Answer}
use Rattle.ranking.specs.Ranking.{tested}
use Rattle.std.specs.Prelude.{Ok}
use Rattle.ranking.proofs.Fine.{rank_list_is_fine}
use Rattle.draw.specs.Draw.{drawn}
use Rattle.draw.proofs.Drawn.{drawn_is_rank_list}
use Rattle.study.specs.Study.{Study}
use Rattle.lawful.specs.Lawful.{Lawful}
use Rattle.orders.proofs.Lists.{entry_in}
use Rattle.planning.specs.Planning.{FirstPlan, Plans, no_walk, off_walk_lem, ring, a_plan}
use Rattle.planning.proofs.Found.{straight_usable, straight_plan_short}
use Rattle.planning.proofs.Ways.{Barred, without, off, on_ring, short, fits, Way, at_fault, way_of, barred-number}
use Rattle.planning.proofs.Ways as Ways
use Rattle.varied.specs.Outcomes.{Outcome, planned, barred, outcome_of, any_room, ComesTo, Come}

-- ---- what an answer and the buffer tell

pub answer_0_told : (r : Answer) (left : List ℕ) → r.number ≡ 0 → outcome_of r left ≡ planned (take r.first left)
unfolding outcome_of
answer_0_told r left e = rw (eq-eqb r.number 0 e)

pub refusal-told : (r : Answer) (left : List ℕ) → r.number ≢ 0 → outcome_of r left ≡ barred r
unfolding outcome_of
refusal-told r left d = rw (ne_eqb r.number 0 d)

plan_told : (list rest : List ℕ) → outcome_of (done (length list) 0) (list ++ rest) ≡ planned list
plan_told list rest = answer_0_told (done (length list) 0) (list ++ rest) refl ∙ ap planned (take-append_seam list rest)

bar_told : {t : Study} {r : Answer} → Barred t r → (left : List ℕ) → outcome_of r left ≡ barred r
bar_told {r = r} b left = refusal-told r left (λ e. omega (arith, barred-number b))

room_length : length any_room ≡ 256
room_length = refl

-- ---- the two things that planning with a seed comes to

pub data Yields (t : Study) (seed : ℕ) : Outcome → Type 0 where
  a_first_plan : {list : List ℕ} → FirstPlan t (drawn seed (length t.actions)) list → Yields t seed (planned list)
  a_bar : {r : Answer} → Barred t r → Yields t seed (barred r)

module _ (t : Study) (seed : ℕ) where
  abbrev seeded : List ℕ
  seeded = drawn seed (length t.actions)

  drawn_fine : tested seeded (length t.actions) ≡ Ok tt
  drawn_fine = rank_list_is_fine (drawn_is_rank_list seed (length t.actions))

  barred_plans : {r : Answer} → Barred t r → Plans t seeded any_room r any_room
  barred_plans (without l) = no_walk drawn_fine l
  barred_plans (off walks l) = off_walk_lem drawn_fine walks l
  barred_plans (on_ring walks met c n) = ring drawn_fine walks met c n

module _ {t : Study} (lawful : Lawful t) (seed : ℕ) where
  -- 9 and 13 cannot be
  yields_with : {before left : List ℕ} {r : Answer} → 256 ≤ length before → Plans t (seeded t seed) before r left → Yields t seed (outcome_of r left)
  yields_with {before = before} long p = from (way_of p)
    where
      from : {r : Answer} {left : List ℕ} → Way t (seeded t seed) before r left → Yields t seed (outcome_of r left)
      from (at_fault f) = absurd (rw (drawn_fine t seed) at f)
      from (Ways.barred fine b) = rw (bar_told b before) (a_bar b)
      from (Ways.planned fine p (short l)) = absurd (omega (arith, straight_plan_short lawful p.straight))
      from (Ways.planned {list = list} fine p (fits l)) = rw (plan_told list (drop (length list) before)) (a_first_plan p)

  pub yields : {o : Outcome} → ComesTo t seed o → Yields t seed o
  yields c = subst (Yields t seed) c.tells (yields_with (omega (arith, room_length)) c.answers)

  pub comes : {o : Outcome} → Yields t seed o → ComesTo t seed o
  comes (a_first_plan {list = list} p) = record {
    answer = done (length list) 0;
    left = list ++ drop (length list) any_room;
    answers = a_plan (drawn_fine t seed) p (omega (arith, room_length, straight_plan_short lawful p.straight));
    tells = plan_told list (drop (length list) any_room);
  }
  comes (a_bar {r = r} b) = record { answer = r; left = any_room; answers = barred_plans t seed b; tells = bar_told b any_room }

  -- planning into any buffer of 256 bytes or more tells what the seed comes to
  pub comes_to_lem :
      {before left : List ℕ} {r : Answer} → 256 ≤ length before → Plans t (drawn seed (length t.actions)) before r left
      → ComesTo t seed (outcome_of r left)
  comes_to_lem long p = comes (yields_with long p)

  -- with 0 the first number is the length of the plan
  pub plan_as_long : {before left : List ℕ} {r : Answer} → Plans t (drawn seed (length t.actions)) before r left → r.number ≡ 0
      → (length (take r.first left) ≡ r.first) × (r.first ≤ 256)
  plan_as_long {before = before} p = from (way_of p)
    where
      from : {r : Answer} {left : List ℕ} → Way t (seeded t seed) before r left → r.number ≡ 0
          → (length (take r.first left) ≡ r.first) × (r.first ≤ 256)
      from (at_fault f) h = absurd (omega arith)
      from (Ways.barred fine b) h = absurd (omega (arith, barred-number b))
      from (Ways.planned fine p (short l)) h = absurd (omega arith)
      from (Ways.planned {list = list} fine p (fits l)) h =
          (ap length (take-append_seam list (drop (length list) before)), straight_plan_short lawful p.straight)

  -- the entries of the plan that a seed gives are actions
  pub plan_of_actions : {list : List ℕ} → ComesTo t seed (planned list) → (at : ℕ) → at < length list → get_or list at 0 < length t.actions
  plan_of_actions c = from (yields c)
    where
      from : {list : List ℕ} → Yields t seed (planned list) → (at : ℕ) → at < length list → get_or list at 0 < length t.actions
      from {list} (a_first_plan p) at h = (straight_usable p.straight (get_or list at 0) (entry_in list at h)).there

-- one seed more
pub come_more :
    {t : Study} (first : ℕ) (outcomes : List Outcome) {o : Outcome} → Come t first outcomes → ComesTo t (first + length outcomes) o
    → Come t first (outcomes ++ (o ∷ []))
come_more {t} first [] {o = last} earlier c = (subst (λ (seed : ℕ). ComesTo t seed last) (omega arith) c, tt)
come_more {t} first (o ∷ rest) {o = last} (d, later) c =
    (d, come_more (suc first) rest later (subst (λ (seed : ℕ). ComesTo t seed last) (omega arith) c))
