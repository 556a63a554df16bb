-- What a crew's plan comes to under a rank list, wherever it is laid: the refusal, the file's, the crew's or 9 to 12; or the plan. No buffer is named, and so no 13.
-- Assumes nothing.
use Rattle.std.specs.Prelude.{ℕ, ◌≡◌, List, length, Ok, Err}
use Rattle.answer.specs.Answers.{refusal}
use Rattle.answer.specs.declared.Answer.{Answer}
use Rattle.ranking.specs.Ranking.{tested}
use Rattle.ranking.specs.declared.Unranked.TheVariants.{Length, Entry}
use Rattle.study.specs.Study.{Study}
use Rattle.study.specs.Reading.{Said, says, refused, reading_for}
use Rattle.orders.specs.Orders.{OnRing}
use Rattle.walks.specs.Walks.{OnAWalk, ComesBefore, Walks, Met}
use Rattle.planning.specs.Refusals.{not_ranked, without_walk, off_walk, with_ring}
use Rattle.planning.specs.Planning.{LowestWithout, LowestOff, FreeOfRings, FirstPlan}

-- a refusal; or a plan, of a file with so many actions
pub data Planned : Type 0 where
  no_plan : Answer → Planned
  the_plan : ℕ → List ℕ → Planned

-- 9, 10, 11, 12, or the first plan in dictionary order of ranks among all straight plans
pub data PlansTo (t : Study) (ranks : List ℕ) : Planned → Type 0 where
  wrong_length : tested ranks (length t.actions) ≡ Err Length → PlansTo t ranks (no_plan (not_ranked (length ranks) (Err Length)))
  wrong_entry : {k : ℕ} → tested ranks (length t.actions) ≡ Err (Entry k) → PlansTo t ranks (no_plan (not_ranked (length ranks) (Err (Entry k))))
  no_walk : {v b : ℕ} → tested ranks (length t.actions) ≡ Ok tt → LowestWithout t v b → PlansTo t ranks (no_plan (without_walk v b))
  off_walk_lem : {i u : ℕ} → tested ranks (length t.actions) ≡ Ok tt → Walks t → LowestOff t i u → PlansTo t ranks (no_plan (off_walk i u))
  ring :
      {n x : ℕ} → tested ranks (length t.actions) ≡ Ok tt → Walks t → Met t → OnRing (OnAWalk t) (ComesBefore t) x → FreeOfRings t n
      → PlansTo t ranks (no_plan (with_ring n))
  a_plan : {list : List ℕ} → tested ranks (length t.actions) ≡ Ok tt → FirstPlan t ranks list → PlansTo t ranks (the_plan (length t.actions) list)

-- .. of what a file says to a crew, and so of a file and a crew: first the file's own refusal and the crew's
abbrev pub SaidPlansTo : Said Study → List ℕ → Planned → Type 0
SaidPlansTo (says t) ranks p = PlansTo t ranks p
SaidPlansTo (refused number place) ranks p = p ≡ no_plan (refusal number place)

abbrev pub FilePlansTo : List ℕ → ℕ → List ℕ → Planned → Type 0
FilePlansTo file crew = SaidPlansTo (reading_for file crew)
