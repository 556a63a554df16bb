-- Where planning a file for a crew with its own seed answers 0: the file says a study to the crew, and the buffer begins with a straight plan of it.
-- Assumes nothing.
use Prim.Native.Nat.{ℕ, ◌≤◌}
use native.Mathlib.Omega.{arith}
use mathlib.Core.Path.{◌≡◌, refl, ap}
use mathlib.Core.List.{List}
use lib.ListN.{length, take, drop, replicate}
use lib.Seq.{take-append_seam}
use Rattle.answer.specs.declared.Answer.{Answer}
use Rattle.study.specs.Study.{Study}
use Rattle.study.specs.Reading.{Said, says, refused, reading_for}
use Rattle.study.proofs.Refusals.{NumberedIfHeard, heard_some, refusals_heard}
use Rattle.plans.specs.Plans.{StraightPlan}
use Rattle.planning.specs.Seeded.{PlansSeeded}
use Rattle.planning.proofs.Ways.{barred-number, short, fits, Way, at_fault, barred, planned, way_of}

pub record Straight (said : Said Study) (r : Answer) (buffer : List ℕ) : Type 0 where
  pub study : Study
  pub its : said ≡ says study
  pub few : r.first ≤ 256
  pub plan : StraightPlan study (take r.first buffer)

way_straight :
    {t : Study} {ranks before after : List ℕ} {r : Answer} → length before ≡ 256 → Way t ranks before r after → r.number ≡ 0 → Straight (says t) r after
way_straight room (at_fault f) e = absurd (omega arith)
way_straight room (barred _ b) e = absurd (omega (arith, barred-number b))
way_straight room (planned _ p (short l)) e = absurd (omega arith)
way_straight {t} {before = before} room (planned {list = list} _ p (fits l)) e =
    record { study = t; its = refl; few = omega arith; plan = rw (take-append_seam list (drop (length list) before)) p.straight }

said_straight :
    (said : Said Study) {r : Answer} (buffer : List ℕ) → NumberedIfHeard said → PlansSeeded said (replicate 256 0) r buffer → r.number ≡ 0 → Straight said r buffer
said_straight (says t) buffer n p e = way_straight refl (way_of p) e
said_straight (refused number place) buffer n p e = absurd (omega (arith, ap (λ (a : Answer). a.number) p.0, heard_some n))

pub seeded_straight :
    (file : List ℕ) (crew : ℕ) (buffer : List ℕ) {r : Answer}
    → PlansSeeded (reading_for file crew) (replicate 256 0) r buffer → r.number ≡ 0 → Straight (reading_for file crew) r buffer
seeded_straight file crew buffer p e = said_straight (reading_for file crew) buffer (refusals_heard file crew) p e
