-- What planning answers: 9, 10, 11, 12, 13, or 0 with the plan. Dictionary order is over all straight plans.
-- Assumes nothing.
use Rattle.std.specs.Prelude.{ℕ, ◌≤◌, ◌<◌, ◌≡◌, List, ◌++◌, length, get_or, drop, Ok, Err}
use Rattle.answer.specs.Answers.{done, refusal}
use Rattle.answer.specs.Allowing.{Allowing, Exactly}
use Rattle.answer.specs.declared.Answer.{Answer}
use Rattle.ranking.specs.Ranking.{tested}
use Rattle.ranking.specs.declared.Unranked.TheVariants.{Length, Entry}
use Rattle.study.specs.Study.{Study}
use Rattle.study.specs.Reading.{Said, says, refused, reading_for}
use Rattle.plans.specs.Plans.{StraightPlan}
use Rattle.orders.specs.Orders.{OnRing, Behind, Counted, First}
use Rattle.planning.specs.Refusals.{not_ranked, without_walk, off_walk, with_ring, short_buffer}
use Rattle.walks.specs.Breaks.{Breaks}
use Rattle.walks.specs.Walks.{Walk, OnAWalk, ValueOnWalk, Wants, ComesBefore, Walks, Met, conditions_of}

-- 10: v is the lowest variable that has no walk, and b tells where its trace breaks off
pub record LowestWithout (t : Study) (v b : ℕ) : Type 0 where
  pub there : v < length t.tasks
  pub without : (list : List ℕ) → Walk t v list → ⊥
  pub breaks : Breaks t v b
  pub lower : (u : ℕ) → u < v → (list : List ℕ) × Walk t u list

-- 11: i is the lowest action on a walk with a condition off its variable's walk, and u its lowest such variable
pub record LowestOff (t : Study) (i u : ℕ) : Type 0 where
  pub on_walk_lem : OnAWalk t i
  pub value : ℕ
  pub wants_it : Wants (conditions_of t i) u value
  pub off : ValueOnWalk t u value → ⊥
  pub lower_vars : (w q : ℕ) → w < u → Wants (conditions_of t i) w q → ValueOnWalk t w q
  pub lower_actions : (j : ℕ) → j < i → OnAWalk t j → (w q : ℕ) → Wants (conditions_of t j) w q → ValueOnWalk t w q

-- 12: n walk actions are on no ring and come, at any remove, after no ring
abbrev pub FreeOfRings : Study → ℕ → Type 0
FreeOfRings t n = Counted (λ y. OnAWalk t y × (Behind (OnAWalk t) (ComesBefore t) y → ⊥)) n

-- an action's rank in a rank list
abbrev pub rank_in : List ℕ → ℕ → ℕ
rank_in ranks i = get_or ranks i 0

-- a straight plan that comes first in dictionary order of ranks among all straight plans
pub record FirstPlan (t : Study) (ranks list : List ℕ) : Type 0 where
  pub straight : StraightPlan t list
  pub first : (other : List ℕ) → StraightPlan t other → First (rank_in ranks) list other

-- what planning a study with a rank list may answer, and the buffer afterwards
pub data Plans (t : Study) (ranks before : List ℕ) : Answer → List ℕ → Type 0 where
  wrong_length : tested ranks (length t.actions) ≡ Err Length → Plans t ranks before (not_ranked (length ranks) (Err Length)) before
  wrong_entry : {k : ℕ} → tested ranks (length t.actions) ≡ Err (Entry k) → Plans t ranks before (not_ranked (length ranks) (Err (Entry k))) before
  no_walk : {v b : ℕ} → tested ranks (length t.actions) ≡ Ok tt → LowestWithout t v b → Plans t ranks before (without_walk v b) before
  off_walk_lem : {i u : ℕ} → tested ranks (length t.actions) ≡ Ok tt → Walks t → LowestOff t i u → Plans t ranks before (off_walk i u) before
  ring :
      {n x : ℕ} → tested ranks (length t.actions) ≡ Ok tt → Walks t → Met t
      → OnRing (OnAWalk t) (ComesBefore t) x
      → FreeOfRings t n
      → Plans t ranks before (with_ring n) before
  no_room :
      {list : List ℕ} → tested ranks (length t.actions) ≡ Ok tt → FirstPlan t ranks list → length before < length list
      → Plans t ranks before (short_buffer (length list)) before
  a_plan :
      {list : List ℕ} → tested ranks (length t.actions) ≡ Ok tt → FirstPlan t ranks list → length list ≤ length before
      → Plans t ranks before (done (length list) 0) (list ++ drop (length list) before)

-- what planning what a file says to a crew may answer, and so planning a file for a crew
abbrev pub PlansFile : Said Study → List ℕ → List ℕ → Allowing
PlansFile (says t) ranks before = Plans t ranks before
PlansFile (refused number place) ranks before = Exactly (refusal number place) before

abbrev pub PlanAllows : List ℕ → ℕ → List ℕ → List ℕ → Allowing
PlanAllows file crew = PlansFile (reading_for file crew)
