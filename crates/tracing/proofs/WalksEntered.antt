-- Walks entered one variable after another: their rows, and their actions in one list, each once.
-- Assumes nothing.
use mathlib.Core.Path.{◌≡◌, refl, ◌∙◌}
use mathlib.Core.Logic.{inl, inr, ◌≢◌}
use mathlib.Core.List.{List, [], ◌++◌}
use Prim.Native.Nat.{ℕ, ◌+◌, ◌*◌, ◌≤◌, ◌<◌}
use native.Mathlib.Omega.{arith}
use native.Mathlib.Decide.{dec_lt}
use lib.ListN.{length, get_or, set, length-append}
use Rattle.study.specs.Study.{Study}
use Rattle.lawful.specs.Lawful.{Lawful}
use Rattle.orders.specs.Orders.{In, Distinct}
use Rattle.walks.specs.Walks.{Walk, OnAWalk, var_of, pre_of, start_of, goal_of}
use Rattle.orders.proofs.Lists.{in_append_left, in_append_right, in_append_cases, distinct_append}
use Rattle.walks.proofs.Leads.{leads_in}
use Rattle.walks.proofs.Unique.{walk_unique, walk_distinct, walk_there}
use Rattle.tracing.specs.Steps.{RowTo, EmptyRow, WayEntered, BrokenOff, GoneOn, Rowed, WalksAll}
use Rattle.walks.specs.Breaks.{Breaks, unset, round, came_round}
use Rattle.walks.proofs.Breaks.{twice_round, walk_never_breaks}
use Rattle.planning.specs.Planning.{LowestWithout}
use Rattle.std.specs.Prelude.{Ok}
use Rattle.tracing.proofs.Ranges.{pre_small, start_small, goal_small, few_tasks}
use Rattle.tracing.proofs.Few.{trail_short}
use Rattle.tracing.proofs.Entering.{SameRows, row_entered, same_rows}

-- the actions on the walks of the first m variables, each once
pub record MembersBelow (t : Study) (m : ℕ) (list : List ℕ) : Type 0 where
  pub once : Distinct list
  pub all : (x : ℕ) → OnAWalk t x → var_of t x < m → In x list
  pub only : (x : ℕ) → In x list → OnAWalk t x × (var_of t x < m)

-- the walks of the first m variables are entered, and their actions counted
pub record Entered (t : Study) (m : ℕ) (steps : List ℕ) (total : ℕ) : Type 0 where
  pub rowed : Rowed t m steps
  pub rest_empty : (u : ℕ) → m ≤ u → u < 32 → EmptyRow u steps
  pub list : List ℕ
  pub members : MembersBelow t m list
  pub long : length list ≡ total

pub none_entered : (t : Study) (steps : List ℕ) → ((u : ℕ) → u < 32 → EmptyRow u steps) → Entered t 0 steps 0
none_entered t steps empty =
    record {
      rowed = λ u h. absurd (omega arith);
      rest_empty = λ u h. empty u;
      list = [];
      members = record { once = tt; all = λ x o h. absurd (omega arith); only = λ x h. absurd h };
      long = refl;
    }

module _ {t : Study} (lawful : Lawful t) where
  -- a row stays where another is written
  row_stays :
      (v u : ℕ) (steps steps' : List ℕ) (list : List ℕ)
      → u < length t.tasks → u ≢ v → SameRows v steps steps'
      → Walk t u list → RowTo t u list (goal_of t u) steps → RowTo t u list (goal_of t u) steps'
  row_stays v u steps steps' list there other same walk row =
      record {
        leaves = λ k h. same u (pre_of t (get_or list k 0)) other (pre_small lawful (get_or list k 0) (walk_there walk k h)) ∙ row.leaves k h;
        ends = same u (goal_of t u) other (goal_small lawful u there) ∙ row.ends;
        off = λ x h d f. same u x other h ∙ row.off x h d f;
      }

  module _ {v : ℕ} (there : v < length t.tasks) where
    members_longer :
        (list walk : List ℕ) → MembersBelow t v list → Walk t v walk → MembersBelow t (v + 1) (list ++ walk)
    members_longer list walk m w =
        record {
          once = distinct_append list walk m.once (walk_distinct lawful w) (λ x h g. omega (arith, (m.only x h).1, own x g));
          all = λ x o h. has x o h (dec_lt (var_of t x) v);
          only = λ x h. elim (in_append_cases x list walk h) [
            | inl g ↦ ((m.only x g).0, omega (arith, (m.only x g).1))
            | inr g ↦ (
              record { there = rw (own x g) there; list = walk; walk = rw (own x g) w; on = g },
              omega (arith, own x g),
            )
          ];
        }
      where
        own : (x : ℕ) → In x walk → var_of t x ≡ v
        own x h = (leads_in t v (start_of t v) walk (goal_of t v) w.leads x h).1

        has : (x : ℕ) → OnAWalk t x → var_of t x < v + 1 → Dec (var_of t x < v) → In x (list ++ walk)
        has x o h (yes g) = in_append_left x list walk (m.all x o g)
        has x o h (no g) =
            let e : var_of t x ≡ v = omega arith in
            let same : o.list ≡ walk = walk_unique lawful (rw e at o.walk) w in
            in_append_right x list walk (rw same at o.on)

    module _ (steps : List ℕ) (total : ℕ) (entered : Entered t v steps total) where
      pub one_more_entered :
          (steps' : List ℕ) {k : ℕ} → length steps ≡ 512
          → WayEntered t v (goal_of t v) 0 (set steps (16 * v + goal_of t v) 1) steps' k → Entered t (v + 1) steps' (total + k)
      one_more_entered steps' sized (walk, (way, (e, enters))) =
          record {
            rowed = λ u h. rows u h (dec_lt u v);
            rest_empty = λ u h g x b. same u x (omega arith) b ∙ entered.rest_empty u (omega arith) g x b;
            list = entered.list ++ walk;
            members = members_longer entered.list walk entered.members way;
            long = omega (arith, length-append entered.list walk, entered.long, e);
          }
        where
          low : v < 32
          low = omega (arith, few_tasks lawful)

          small : goal_of t v < 16
          small = goal_small lawful v there

          same : SameRows v steps steps'
          same = same_rows lawful steps way enters small

          row : RowTo t v walk (goal_of t v) steps'
          row = row_entered lawful steps way enters (omega (arith, low, small)) (entered.rest_empty v (omega arith) low)

          rows : (u : ℕ) → u < v + 1 → Dec (u < v) → (list : List ℕ) × (Walk t u list × RowTo t u list (goal_of t u) steps')
          rows u h (yes g) =
              let (list, (w, r)) = entered.rowed u g in
              (list, (w, row_stays v u steps steps' list (omega arith) (omega arith) same w r))
          rows u h (no g) = let f : u ≡ v = omega arith in rw f (walk, (way, row))

      lowest_without_lem : {b : ℕ} → Breaks t v b → LowestWithout t v b
      lowest_without_lem broken =
          record {
            there = there;
            without = λ list walk. walk_never_breaks lawful walk broken;
            breaks = broken;
            lower = λ u h. let (list, (w, r)) = entered.rowed u h in (list, w);
          }

      pub breaks_off : {p : ℕ} → BrokenOff t v (goal_of t v) p → LowestWithout t v p
      breaks_off (passed, (back, (off, nobody))) = lowest_without_lem (unset (record { passed = passed; back = back; off = off; unset = nobody }))

      pub goes_round : GoneOn t v (goal_of t v) 16 → LowestWithout t v came_round
      goes_round (p, (passed, (back, long))) =
          lowest_without_lem (round (twice_round p passed back (λ d. omega (arith, long, trail_short lawful (start_small lawful v there) back d))))

pub all_entered :
    {t : Study} {n : ℕ} {steps : List ℕ} {total : ℕ} → n ≡ length t.tasks → Entered t n steps total → WalksAll t n steps (Ok total)
all_entered e entered =
    let m = entered.members in (
      entered.rowed,
      (
        entered.list,
        (
          record { once = m.once; all = λ x o. m.all x o (rw e o.there); only = λ x h. (m.only x h).0 },
          entered.long,
        ),
      ),
    )
