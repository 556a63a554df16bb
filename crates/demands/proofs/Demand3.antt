-- Demand 3 over files: for a file that loads, a crew of it, a rank list and room, planning is refused exactly when there is no straight plan; what stands in the buffer is first in dictionary order of ranks among all straight plans; each straight plan is returned under some rank list. With the crew's own seed the same, and 9 never.
-- Assumes nothing.
use Prim.Native.Nat.{ℕ}
use native.Mathlib.Omega.{arith}
use mathlib.Core.Path.{◌≡◌, ap}
use mathlib.Core.Logic.{◌≢◌, ◌↔◌}
use mathlib.Core.List.{List}
use lib.ListN.{length, take}
use Rattle.answer.specs.declared.Answer.{Answer}
use Rattle.ranking.proofs.Fine.{rank_list_is_fine}
use Rattle.study.specs.Study.{Study}
use Rattle.study.specs.Reading.{Said, says, refused, reading_for}
use Rattle.study.proofs.Refusals.{NumberedIfHeard, heard_outside, refusals_heard}
use Rattle.lawful.proofs.Loads.{heard_lawful}
use Rattle.plans.specs.Plans.{StraightPlan}
use Rattle.draw.proofs.Drawn.{drawn_is_rank_list}
use Rattle.planning.specs.Planning.{FirstPlan, a_plan, PlanAllows}
use Rattle.planning.specs.Seeded.{own_ranks, PlansSeeded, SeededAllows}
use Rattle.planning.proofs.Exact.{answer_0_is_first, refused_exactly_when_none, rank_list_not_9}
use Rattle.planning.proofs.Each.{first_plan_returned, each_straight_plan_first}
use Rattle.demands.specs.Words.{LoadsFor, RanksFor, RoomFor, NoStraightPlan, Returned}

pub own_ranks_are_a_rank_list : (t : Study) → RanksFor t (own_ranks t)
own_ranks_are_a_rank_list t = drawn_is_rank_list t.seed (length t.actions)

-- what a crew hears is refused with 1 to 8, 21 or 22
seeded_not_9 :
    (said : Said Study) → NumberedIfHeard said
    → (before : List ℕ) (r : Answer) (after : List ℕ) → PlansSeeded said before r after → r.number ≢ 9
seeded_not_9 (says t) n before r after p h = rank_list_not_9 (own_ranks_are_a_rank_list t) p h
seeded_not_9 (refused number place) n before r after p h =
    heard_outside n 9 (omega arith) (omega arith) (omega (arith, ap (λ (a : Answer). a.number) p.0))

-- ---- the theorems, for a file that loads and a crew of it

module _ (file : List ℕ) (crew : ℕ) (t : Study) (loads : LoadsFor file crew t) where
  -- planned with ranks, into a buffer
  module _ (ranks before : List ℕ) (r : Answer) (after : List ℕ) (allowed : PlanAllows file crew ranks before r after) where
    pub refused_exactly_when_no_straight_plan : RanksFor t ranks → RoomFor t before → (r.number ≢ 0) ↔ NoStraightPlan t
    refused_exactly_when_no_straight_plan rank_list room =
        refused_exactly_when_none (heard_lawful file crew t loads) rank_list room (rw loads at allowed)

    pub first_in_dictionary_order : r.number ≡ 0 → FirstPlan t ranks (take r.first after)
    first_in_dictionary_order = answer_0_is_first (rw loads at allowed)

  -- planned with the seed, into a buffer
  module _ (before : List ℕ) (r : Answer) (after : List ℕ) (allowed : SeededAllows file crew before r after) where
    pub seeded_refused_exactly_when_no_straight_plan : RoomFor t before → (r.number ≢ 0) ↔ NoStraightPlan t
    seeded_refused_exactly_when_no_straight_plan room =
        refused_exactly_when_none (heard_lawful file crew t loads) (own_ranks_are_a_rank_list t) room (rw loads at allowed)

    pub seeded_first_in_dictionary_order : r.number ≡ 0 → FirstPlan t (own_ranks t) (take r.first after)
    seeded_first_in_dictionary_order = answer_0_is_first (rw loads at allowed)

  -- under some rank list a straight plan, and nothing else, is returned
  pub each_straight_plan_is_returned : (list : List ℕ) → StraightPlan t list → (ranks : List ℕ) × (RanksFor t ranks × Returned file crew ranks list)
  each_straight_plan_is_returned list straight =
      let (ranks, (rank_list, first)) = each_straight_plan_first (heard_lawful file crew t loads) straight in (
        ranks,
        (
          rank_list,
          λ before room. record {
            allowed = rw loads (a_plan (rank_list_is_fine rank_list) first room);
            only = λ r after p. first_plan_returned (heard_lawful file crew t loads) rank_list first room (rw loads at p);
          },
        ),
      )

-- for every file and crew
pub seeded_never_answers_9 :
    (file : List ℕ) (crew : ℕ) (before : List ℕ) (r : Answer) (after : List ℕ) → SeededAllows file crew before r after → r.number ≢ 9
seeded_never_answers_9 file crew = seeded_not_9 (reading_for file crew) (refusals_heard file crew)
