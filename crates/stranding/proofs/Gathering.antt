-- One pass over the actions: those that their step names are on walks, and are put into the set.
-- Assumes nothing.
use mathlib.Core.Path.{◌≡◌}
use mathlib.Core.Logic.{◌≢◌}
use mathlib.Core.Bool.{false}
use mathlib.Core.List.{List}
use Prim.Native.Nat.{ℕ, ◌+◌, ◌*◌, ◌≤◌, ◌<◌}
use native.Mathlib.Omega.{arith}
use lib.ListN.{length, get_or}
use Rattle.bits.specs.Bits.{within, Added}
use Rattle.study.specs.Study.{Study}
use Rattle.walks.specs.Walks.{OnAWalk}
use Rattle.walks.proofs.Leads.{on_walk_usable}
use Rattle.tracing.specs.Facts.{Wishes}
use Rattle.tracing.specs.Steps.{Rowed}
use Rattle.tracing.proofs.StepTable.{step_leaves, on_walk_step}
use Rattle.wanting.proofs.Told.{Told, told}
use Rattle.stranding.specs.Left.{HasJust}
use Rattle.stranding.proofs.Sets.{HasFirst, none_first, first_skipped, first_added, first_all}

abbrev Empty : List ℕ → Type 0
Empty set = (i : ℕ) → within set i ≡ false

-- where the pass stands
pub record Underway (a : ℕ) (vars pres places manys steps before set : List ℕ) (i : ℕ) : Type 0 where
  pub size : length set ≡ 4
  pub few : i ≤ a
  pub so_far_lem :
      (file : List ℕ) (t : Study) → Wishes file a vars pres places manys t → Rowed t (length t.tasks) steps → Empty before
      → HasFirst (OnAWalk t) i set

pub begins : {a : ℕ} {vars pres places manys steps set : List ℕ} → length set ≡ 4 → Underway a vars pres places manys steps set set 0
begins size = record { size = size; few = omega arith; so_far_lem = λ file t w rowed empty. none_first empty }

module _
    {a : ℕ} {vars pres places manys steps before set : List ℕ} {i : ℕ}
    (under : Underway a vars pres places manys steps before set i) (h : i < a)
    {x y : ℕ} (is_var : x ≡ get_or vars i 0) (is_pre : y ≡ get_or pres i 0) where
  told_here : {file : List ℕ} {t : Study} → Wishes file a vars pres places manys t → Told t i x y
  told_here w = told w i h is_var is_pre

  pub skips : get_or steps (16 * x + y) 0 ≢ i + 2 → Underway a vars pres places manys steps before set (i + 1)
  skips other = record {
    size = under.size;
    few = omega arith;
    so_far_lem =
        λ file t w rowed empty.
        first_skipped (under.so_far_lem file t w rowed empty)
        (λ on. other (rw ((told_here w).var, (told_here w).pre) (on_walk_step rowed w.lawful on)));
  }

  pub goes_on :
      {set' : List ℕ} → get_or steps (16 * x + y) 0 ≡ i + 2 → Added i set set' → Underway a vars pres places manys steps before set' (i + 1)
  goes_on is added = record {
    size = added.long;
    few = omega arith;
    so_far_lem =
        λ file t w rowed empty.
        first_added (under.so_far_lem file t w rowed empty) (step_leaves rowed x y i (told_here w).there (told_here w).narrow is).0 added;
  }

pub ends :
    {a : ℕ} {vars pres places manys steps before set : List ℕ} {i : ℕ} → Underway a vars pres places manys steps before set i → a ≤ i
    → (file : List ℕ) (t : Study) → Wishes file a vars pres places manys t → Rowed t (length t.tasks) steps → Empty before
    → HasJust (OnAWalk t) set
ends under h file t w rowed empty =
    first_all (under.so_far_lem file t w rowed empty) (λ x on. omega (arith, (on_walk_usable on).there, w.actions))
