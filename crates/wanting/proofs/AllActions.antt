-- One pass over the actions: each that is on a walk wants only what is on walks, or is the lowest that does not.
-- Assumes nothing.
use mathlib.Core.Path.{◌≡◌}
use mathlib.Core.Logic.{◌≢◌}
use mathlib.Core.List.{List}
use Prim.Native.Nat.{ℕ, ◌+◌, ◌*◌, ◌≤◌, ◌<◌}
use native.Mathlib.Omega.{arith}
use lib.ListN.{length, get_or}
use Rattle.study.specs.Study.{Study}
use Rattle.walks.specs.Walks.{OnAWalk, conditions_of}
use Rattle.tracing.specs.Facts.{Wishes}
use Rattle.tracing.specs.Steps.{Rowed}
use Rattle.wanting.specs.Wanting.{StandAt, FirstOff, WantsEach, WantsAll}
use Rattle.planning.specs.Planning.{LowestOff}
use Rattle.std.specs.Prelude.{Ok}
use Rattle.tracing.proofs.StepTable.{step_leaves, on_walk_step}
use Rattle.wanting.proofs.Conditions.{wishes_stand}
use Rattle.wanting.proofs.OnWalks.{steps_on_walks, first_off_lowest}
use Rattle.wanting.proofs.Told.{Told, told}
use Rattle.wanting.proofs.Passed.{Passed, none_passed, one_skipped, one_passed, all_passed}

-- where the pass stands; no entry grows past 255 for each action
pub record Underway (file : List ℕ) (a : ℕ) (vars pres places manys steps table : List ℕ) (i : ℕ) : Type 0 where
  pub some : (t : Study) × Wishes file a vars pres places manys t
  pub size : length table ≡ 512
  pub few : i ≤ a
  pub low : (j : ℕ) → get_or table j 0 ≤ 255 * i
  pub so_far_lem : (t : Study) → Wishes file a vars pres places manys t → Rowed t (length t.tasks) steps → Passed t table i

pub begins :
    {file : List ℕ} {a : ℕ} {vars pres places manys steps table : List ℕ}
    → length table ≡ 512 → ((j : ℕ) → get_or table j 0 ≡ 0) → (t : Study) × Wishes file a vars pres places manys t
    → Underway file a vars pres places manys steps table 0
begins size zeros some = record {
  some = some;
  size = size;
  few = omega arith;
  low = λ j. omega (arith, zeros j);
  so_far_lem = λ t w r. none_passed zeros;
}

module _
    {file : List ℕ} {a : ℕ} {vars pres places manys steps table : List ℕ} {i : ℕ}
    (under : Underway file a vars pres places manys steps table i) (h : i < a) where
  -- the variable and pre of action i, as the tables have them
  module _ {x y : ℕ} (is_var : x ≡ get_or vars i 0) (is_pre : y ≡ get_or pres i 0) where
    told_here : {t : Study} → Wishes file a vars pres places manys t → Told t i x y
    told_here w = told w i h is_var is_pre

    pub skips : get_or steps (16 * x + y) 0 ≢ i + 2 → Underway file a vars pres places manys steps table (i + 1)
    skips other = record {
      some = under.some;
      size = under.size;
      few = omega arith;
      low = λ j. omega (arith, under.low j);
      so_far_lem =
          λ t w rowed. one_skipped (under.so_far_lem t w rowed)
          (λ on. other (rw ((told_here w).var, (told_here w).pre) (on_walk_step rowed w.lawful on)));
    }

    module _ (is : get_or steps (16 * x + y) 0 ≡ i + 2) where
      is_on_walk : {t : Study} → Wishes file a vars pres places manys t → Rowed t (length t.tasks) steps → OnAWalk t i
      is_on_walk w rowed = (step_leaves rowed x y i (told_here w).there (told_here w).narrow is).0

      pub goes_on :
          {table' : List ℕ}
          → ((length table' ≡ 512) × ((j : ℕ) → get_or table' j 0 ≤ get_or table j 0 + 255))
          × ((t : Study) (j : ℕ)
          → StandAt file (get_or places i 0) (get_or manys i 0) t j
          → WantsEach (conditions_of t j) steps table table' (Ok tt))
          → Underway file a vars pres places manys steps table' (i + 1)
      goes_on ((size, grown), each) = record {
        some = under.some;
        size = size;
        few = omega arith;
        low = λ j. omega (arith, under.low j, grown j);
        so_far_lem =
            λ t w rowed.
            let stand = wishes_stand w i h in
            let (have, more) = each t i stand in
            one_passed (under.so_far_lem t w rowed) (is_on_walk w rowed) (steps_on_walks stand rowed have) more;
      }

      pub breaks_off :
          {u : ℕ}
          → ((t : Study) (j : ℕ) → StandAt file (get_or places i 0) (get_or manys i 0) t j → FirstOff (conditions_of t j) steps u)
          → (t : Study) → Wishes file a vars pres places manys t → Rowed t (length t.tasks) steps → LowestOff t i u
      breaks_off first t w rowed =
          let stand = wishes_stand w i h in
          first_off_lowest stand rowed (first t i stand) (is_on_walk w rowed) (under.so_far_lem t w rowed).met

pub ends :
    {file : List ℕ} {a : ℕ} {vars pres places manys steps table : List ℕ} {i : ℕ}
    → Underway file a vars pres places manys steps table i → a ≤ i
    → (t : Study) → Wishes file a vars pres places manys t → Rowed t (length t.tasks) steps → WantsAll t table (Ok tt)
ends under h t w rowed = all_passed (under.so_far_lem t w rowed) (omega (arith, under.few, w.actions))
