-- One pass over the actions: those that their step names are put into a set, and are those on walks.
-- Assumes nothing.
use mathlib.Core.Path.{◌≡◌, ◌∙◌}
use mathlib.Core.Logic.{inl, inr, ◌≢◌}
use mathlib.Core.Bool.{true}
use mathlib.Core.List.{List}
use Prim.Native.Nat.{ℕ, ◌+◌, ◌*◌, ◌≤◌, ◌<◌}
use native.Mathlib.Omega.{arith}
use lib.ListN.{length, get_or}
use borrow.Author.Count.{below_more}
use Rattle.bits.specs.Bits.{within, Added}
use Rattle.bits.proofs.Members.{not_both, added_there, added_keeps, added_only}
use Rattle.study.specs.Study.{Study}
use Rattle.tables.specs.Rows.{Row, OpensAction}
use Rattle.tables.specs.declared.Act.{Act}
use Rattle.walks.specs.Walks.{OnAWalk}
use Rattle.walks.proofs.Leads.{on_walk_usable}
use Rattle.tracing.specs.Facts.{WishesIn}
use Rattle.tracing.specs.Steps.{Rowed}
use Rattle.tracing.proofs.StepTable.{step_leaves, on_walk_step}
use Rattle.wanting.proofs.Told.{Told, told}
use Rattle.listing.specs.Listing.{Empty, SetOfWalks}

-- the first i actions: those on walks are in the set, and no other is
pub record WalksSoFar (t : Study) (set : List ℕ) (i : ℕ) : Type 0 where
  pub there : (j : ℕ) → j < i → OnAWalk t j → within set j ≡ true
  pub only : (j : ℕ) → within set j ≡ true → OnAWalk t j

-- where the pass stands
pub record Underway (a : ℕ) (acts : List Row) (steps set : List ℕ) (i : ℕ) : Type 0 where
  pub some : (t : Study) × (file : List ℕ) × WishesIn file a acts t
  pub long : length set ≡ 4
  pub few : i ≤ a
  pub small : a ≤ 256
  pub so_far_lem : (t : Study) (file : List ℕ) → WishesIn file a acts t → Rowed t (length t.tasks) steps → WalksSoFar t set i

pub begins :
    {a : ℕ} {acts : List Row} {steps set : List ℕ} → length set ≡ 4 → Empty set → (t : Study) × (file : List ℕ) × WishesIn file a acts t
    → Underway a acts steps set 0
begins long empty some = record {
  some = some;
  long = long;
  few = omega arith;
  small = let (t, file, w) = some in omega (arith, w.actions, w.lawful.few_actions);
  so_far_lem = λ t file w rowed. record { there = λ j h. absurd (omega arith); only = λ j e. absurd (not_both e (empty j)) };
}

module _ {a : ℕ} {acts : List Row} {steps set : List ℕ} {i : ℕ} (under : Underway a acts steps set i) (h : i < a) where
  -- the action's row, opened
  module _ {act : Act} (opens : OpensAction acts i act) {x y : ℕ} (wide-var : x ≡ act.var) (wide-pre : y ≡ act.pre) where
    told_here : {t : Study} {file : List ℕ} → WishesIn file a acts t → Told t i x y
    told_here w = told w i h (wide-var ∙ opens.var) (wide-pre ∙ opens.pre)

    pub in_table_lem : 16 * x + y < 512
    in_table_lem = let (t, file, w) = under.some in (told_here w).inside

    pub skips : get_or steps (16 * x + y) 0 ≢ i + 2 → Underway a acts steps set (i + 1)
    skips other = record {
      some = under.some;
      long = under.long;
      few = omega arith;
      small = under.small;
      so_far_lem =
          λ t file w rowed.
          let so_far_lem = under.so_far_lem t file w rowed in
          record {
            there =
                below_more (λ j. OnAWalk t j → within set j ≡ true) i so_far_lem.there
                (λ on. absurd (other (rw ((told_here w).var, (told_here w).pre) (on_walk_step rowed w.lawful on))));
            only = so_far_lem.only;
          };
    }

    pub goes_on : {set' : List ℕ} → get_or steps (16 * x + y) 0 ≡ i + 2 → Added i set set' → Underway a acts steps set' (i + 1)
    goes_on {set'} is added = record {
      some = under.some;
      long = added.long;
      few = omega arith;
      small = under.small;
      so_far_lem =
          λ t file w rowed.
          let so_far_lem = under.so_far_lem t file w rowed in
          record {
            there =
                below_more (λ j. OnAWalk t j → within set' j ≡ true) i (λ j l on. added_keeps added j (so_far_lem.there j l on))
                (λ _. added_there added);
            only =
                λ j e.
                elim (added_only added j e) [
                  | inl old ↦ so_far_lem.only j old
                  | inr new ↦ rw (← new) (step_leaves rowed x y i (told_here w).there (told_here w).narrow is).0
                ];
          };
    }

pub ends :
    {a : ℕ} {acts : List Row} {steps set : List ℕ} {i : ℕ} → Underway a acts steps set i → a ≤ i
    → (t : Study) (file : List ℕ) → WishesIn file a acts t → Rowed t (length t.tasks) steps → SetOfWalks t set
ends under h t file w rowed =
    let so_far_lem = under.so_far_lem t file w rowed in
    λ j. (so_far_lem.only j, λ on. so_far_lem.there j (omega (arith, (on_walk_usable on).there, w.actions)) on)
