-- The ways in which planning comes to its answer: the ranks are at fault, no straight plan can be, or the first plan is laid in the buffer if that has room.
-- Assumes nothing.
use Prim.Native.Nat.{ℕ, ◌≤◌, ◌<◌}
use native.Mathlib.Omega.{arith}
use mathlib.Core.Path.{◌≡◌, refl}
use mathlib.Core.List.{List, ◌++◌}
use lib.ListN.{length, drop}
use Rattle.answer.specs.Answers.{three, done}
use Rattle.answer.specs.declared.Answer.{Answer}
use Rattle.ranking.specs.Ranking.{Tested, tested}
use Rattle.std.specs.Prelude.{Ok, Err}
use Rattle.ranking.specs.declared.Unranked.TheVariants.{Length, Entry}
use Rattle.study.specs.Study.{Study}
use Rattle.lawful.specs.Lawful.{Lawful}
use Rattle.plans.specs.Plans.{StraightPlan}
use Rattle.orders.specs.Orders.{OnRing}
use Rattle.walks.specs.Walks.{OnAWalk, ComesBefore, Walks, Met}
use Rattle.planning.specs.Refusals.{without_walk, off_walk, with_ring, short_buffer, NoPlanCanBe}
use Rattle.planning.specs.Planning.{LowestWithout, LowestOff, FreeOfRings, FirstPlan, Plans, wrong_length, wrong_entry, no_walk, off_walk_lem, ring, no_room, a_plan}
use Rattle.planning.proofs.Bars.{without_bars_plans, off_bars_plans, ring_bars_plans}

-- 9: the first and second number, by what the test says
abbrev pub Fault : List ℕ → Tested → ℕ → ℕ → Type 0
Fault ranks (Ok tt) first second = ⊥
Fault ranks (Err Length) first second = (first ≡ length ranks) × (second ≡ 1)
Fault ranks (Err (Entry k)) first second = (first ≡ k) × (second ≡ 0)

-- 10, 11, 12: what bars every straight plan
pub data Barred (t : Study) : Answer → Type 0 where
  without : {v b : ℕ} → LowestWithout t v b → Barred t (without_walk v b)
  off : {i u : ℕ} → Walks t → LowestOff t i u → Barred t (off_walk i u)
  on_ring : {n x : ℕ} → Walks t → Met t → OnRing (OnAWalk t) (ComesBefore t) x → FreeOfRings t n → Barred t (with_ring n)

-- 13, 0: a plan is laid in the buffer, if that has room
pub data Laid (list before : List ℕ) : Answer → List ℕ → Type 0 where
  short : length before < length list → Laid list before (short_buffer (length list)) before
  fits : length list ≤ length before → Laid list before (done (length list) 0) (list ++ drop (length list) before)

pub data Way (t : Study) (ranks before : List ℕ) : Answer → List ℕ → Type 0 where
  at_fault : {first second : ℕ} → Fault ranks (tested ranks (length t.actions)) first second → Way t ranks before (three 9 first second) before
  barred : {r : Answer} → tested ranks (length t.actions) ≡ Ok tt → Barred t r → Way t ranks before r before
  planned :
      {list after : List ℕ} {r : Answer} → tested ranks (length t.actions) ≡ Ok tt → FirstPlan t ranks list → Laid list before r after
      → Way t ranks before r after

pub way_of : {t : Study} {ranks before after : List ℕ} {r : Answer} → Plans t ranks before r after → Way t ranks before r after
way_of {ranks = ranks} (wrong_length e) = at_fault {first = length ranks} {second = 1} (rw e (refl, refl))
way_of (wrong_entry {k = k} e) = at_fault {first = k} {second = 0} (rw e (refl, refl))
way_of (no_walk fine l) = barred fine (without l)
way_of (off_walk_lem fine walks l) = barred fine (off walks l)
way_of (ring fine walks met c n) = barred fine (on_ring walks met c n)
way_of (no_room fine p h) = planned fine p (short h)
way_of (a_plan fine p h) = planned fine p (fits h)

pub barred-number : {t : Study} {r : Answer} → Barred t r → NoPlanCanBe r
barred-number (without l) = omega arith
barred-number (off walks l) = omega arith
barred-number (on_ring walks met c n) = omega arith

pub barred_has_none : {t : Study} {r : Answer} {list : List ℕ} → Lawful t → Barred t r → StraightPlan t list → ⊥
barred_has_none lawful (without l) p = without_bars_plans lawful p l
barred_has_none lawful (off walks l) p = off_bars_plans lawful p l
barred_has_none lawful (on_ring walks met c n) p = ring_bars_plans lawful p c
