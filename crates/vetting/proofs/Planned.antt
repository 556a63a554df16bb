-- What planning with a rank list into 256 bytes comes to: what bars every plan, or a straight plan in the front of the bytes.
-- Assumes nothing.
use Prim.Native.Nat.{ℕ}
use native.Mathlib.Omega.{arith}
use mathlib.Core.Path.{◌≡◌, refl}
use mathlib.Core.Logic.{◌≢◌}
use mathlib.Core.List.{List}
use lib.ListN.{length, take, drop}
use lib.Seq.{take-append_seam}
use Rattle.answer.specs.declared.Answer.{Answer}
use Rattle.ranking.specs.Ranking.{tested}
use Rattle.std.specs.Prelude.{Ok}
use Rattle.study.specs.Study.{Study}
use Rattle.lawful.specs.Lawful.{Lawful}
use Rattle.plans.specs.Plans.{StraightPlan}
use Rattle.planning.specs.Planning.{Plans}
use Rattle.planning.proofs.Found.{straight_plan_short}
use Rattle.planning.proofs.Ways.{Barred, without, off, on_ring, barred-number, short, fits, Way, at_fault, barred, planned, way_of}
use Rattle.charts.specs.Charts.{Chart}
use Rattle.charts.specs.Answers.{Charts, no_walk, off_walk_lem, ring}

-- 10, 11, 12
pub barred_charts : {t : Study} (c : Chart) {r : Answer} → Barred t r → Charts t c r
barred_charts c (without l) = no_walk l
barred_charts c (off walks l) = off_walk_lem walks l
barred_charts c (on_ring walks met x n) = ring walks met x n

module _
    {t : Study} (lawful : Lawful t) {ranks : List ℕ} (fine : tested ranks (length t.actions) ≡ Ok tt) (before : List ℕ) (room : length before ≡ 256)
  where
    refused : {after : List ℕ} {r : Answer} → Way t ranks before r after → r.number ≢ 0 → Barred t r
    refused (at_fault f) away = absurd (rw fine at f)
    refused (barred _ b) away = b
    refused (planned _ p (short h)) away = absurd (omega (arith, straight_plan_short lawful p.straight))
    refused (planned _ p (fits h)) away = absurd (away refl)

    laid : {after : List ℕ} {r : Answer} → Way t ranks before r after → r.number ≡ 0 → StraightPlan t (take r.first after)
    laid (at_fault f) e = absurd (omega arith)
    laid (barred _ b) e = absurd (omega (arith, barred-number b))
    laid (planned _ p (short h)) e = absurd (omega arith)
    laid (planned {list = list} _ p (fits h)) e = rw (take-append_seam list (drop (length list) before)) p.straight

    module _ {after : List ℕ} {r : Answer} (plans : Plans t ranks before r after) where
      pub refused_charts : (c : Chart) → r.number ≢ 0 → Charts t c r
      refused_charts c away = barred_charts c (refused (way_of plans) away)

      pub plan_in_front : r.number ≡ 0 → StraightPlan t (take r.first after)
      plan_in_front = laid (way_of plans)
