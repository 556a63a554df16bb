-- One pass over the actions: the orders that each walk action tells are weighed, and the lowest that lacks is found.
-- Assumes nothing.
use mathlib.Core.Path.{◌≡◌, ◌∙◌}
use mathlib.Core.Logic.{◌⊎◌, inl, inr, ◌≢◌}
use mathlib.Core.List.{List}
use Prim.Native.Nat.{ℕ, ◌+◌, ◌*◌, ◌≤◌, ◌<◌}
use native.Mathlib.Omega.{arith}
use native.Mathlib.Decide.{ℕ_discrete}
use lib.ListN.{get_or}
use Rattle.std.specs.Prelude.{Option, Some, None}
use Rattle.study.specs.Study.{Study}
use Rattle.tables.specs.Rows.{Row, var_column, pre_column, place_column, many_column, start_column, OpensAction}
use Rattle.tables.specs.declared.Act.{Act}
use Rattle.walks.specs.Walks.{Met}
use Rattle.walks.proofs.Leads.{on_walk_usable}
use Rattle.wanting.proofs.Conditions.{wishes_stand}
use Rattle.wanting.proofs.Told.{Told, told}
use Rattle.ordering.specs.Ordering.{OrderableIn}
use Rattle.charts.specs.Faults.{Direct, LowerTwo}
use Rattle.linking.specs.Linking.{Rows, Linked}
use Rattle.lacking.specs.Lacking.{Lacks, nothing, two, as_one, Weighs, OfAction, OfActions}
use Rattle.lacking.proofs.Weighing.{none_weighed, weighed_as, both_weighed}
use Rattle.lacking.proofs.Wanted.{Stand}
use Rattle.lacking.proofs.Directs.{tells_direct, direct_told}

-- the orders that the first n rows tell
abbrev ToldBy : List ℕ → (acts vars : List Row) → (setters steps : List ℕ) → ℕ → ℕ → ℕ → Type 0
ToldBy file acts vars setters steps n =
    OfActions file (start_column vars) setters steps (var_column acts) (pre_column acts) (place_column acts) (many_column acts) n

-- where the pass stands
pub record Underway (file : List ℕ) (a : ℕ) (acts vars : List Row) (setters steps : List ℕ) (rows : Rows) (best : Option (ℕ × ℕ)) (i : ℕ) : Type 0 where
  pub some : (t : Study) × OrderableIn file a acts vars setters steps t
  pub few : i ≤ a
  pub small : a ≤ 256
  pub so_far_lem : Weighs rows (ToldBy file acts vars setters steps i) None best

pub begins :
    {file : List ℕ} {a : ℕ} {acts vars : List Row} {setters steps : List ℕ} {rows : Rows}
    → (t : Study) × OrderableIn file a acts vars setters steps t → Underway file a acts vars setters steps rows None 0
begins some = record {
  some = some;
  few = omega arith;
  small = let (t, able) = some in omega (arith, able.wishes.actions, able.wishes.lawful.few_actions);
  so_far_lem = none_weighed (λ x y s. let (i, h, _, _) = s in omega arith);
}

module _
    {file : List ℕ} {a : ℕ} {acts vars : List Row} {setters steps : List ℕ} {rows : Rows} {best : Option (ℕ × ℕ)} {i : ℕ}
    (under : Underway file a acts vars setters steps rows best i) (h : i < a) where
  -- the action's row, opened
  module _ {act : Act} (opens : OpensAction acts i act) {v p : ℕ} (wide-var : v ≡ act.var) (wide-pre : p ≡ act.pre) where
    is_var : v ≡ get_or (var_column acts) i 0
    is_var = wide-var ∙ opens.var

    is_pre : p ≡ get_or (pre_column acts) i 0
    is_pre = wide-pre ∙ opens.pre

    told_here : {t : Study} → OrderableIn file a acts vars setters steps t → Told t i v p
    told_here able = told able.wishes i h is_var is_pre

    pub in_table_lem : 16 * v + p < 512
    in_table_lem = let (t, able) = under.some in (told_here able).inside

    pub low_var : act.var < 32
    low_var =
        let (t, able) = under.some in
        omega (arith, (told_here able).there, able.wishes.lawful.a_task_each, able.wishes.lawful.few_variables)

    pub low_pre : act.pre < 16
    low_pre = let (t, able) = under.some in omega (arith, (told_here able).narrow)

    pub stand : Stand file act.place act.many steps
    stand = let (t, able) = under.some in (t, i, rw (opens.place, opens.many) (wishes_stand able.wishes i h), able.rowed)

    pub skips : get_or steps (16 * v + p) 0 ≢ i + 2 → Underway file a acts vars setters steps rows best (i + 1)
    skips other = record {
      some = under.some;
      few = omega arith;
      small = under.small;
      so_far_lem = weighed_as (λ x y s. let (m, l, is, d) = s in (m, omega arith, is, d)) parted under.so_far_lem;
    }
      where
        parted :
            (x y : ℕ) → ToldBy file acts vars setters steps (i + 1) x y
            → ToldBy file acts vars setters steps i x y
        parted x y (m, l, is, d) = go (ℕ_discrete m i)
          where
            go : Dec (m ≡ i) → ToldBy file acts vars setters steps i x y
            go (yes e) = absurd (other (rw (is_var, is_pre) (rw e at is)))
            go (no n) = (m, omega arith, is, d)

    pub goes_on :
        {r : Option (ℕ × ℕ)} → get_or steps (16 * v + p) 0 ≡ i + 2
        → Weighs rows (OfAction file (start_column vars) setters steps act.var act.pre act.place act.many i) best r
        → Underway file a acts vars setters steps rows r (i + 1)
    goes_on {r} is w = record {
      some = under.some;
      few = omega arith;
      small = under.small;
      so_far_lem = weighed_as joined parted (both_weighed under.so_far_lem (rw (opens.var, opens.pre, opens.place, opens.many) at w));
    }
      where
        Own : ℕ → ℕ → Type 0
        Own =
            OfAction file (start_column vars) setters steps (get_or (var_column acts) i 0) (get_or (pre_column acts) i 0) (get_or (place_column acts) i 0)
            (get_or (many_column acts) i 0) i

        joined :
            (x y : ℕ) → ToldBy file acts vars setters steps i x y ⊎ Own x y
            → ToldBy file acts vars setters steps (i + 1) x y
        joined x y (inl (m, l, e, d)) = (m, omega arith, e, d)
        joined x y (inr d) = (i, omega arith, rw (is_var, is_pre) at is, d)

        parted :
            (x y : ℕ) → ToldBy file acts vars setters steps (i + 1) x y
            → ToldBy file acts vars setters steps i x y ⊎ Own x y
        parted x y (m, l, f, d) = go (ℕ_discrete m i)
          where
            go : Dec (m ≡ i) → ToldBy file acts vars setters steps i x y ⊎ Own x y
            go (yes e) = inr (rw e at d)
            go (no n) = inl (m, omega arith, f, d)

-- ---- what the least weighed tells

module _ {t : Study} {rows : Rows} {best : Option (ℕ × ℕ)} (low : (i j : ℕ) → Direct t i j → (i < 256) × (j < 256)) (w : Weighs rows (Direct t) None best) where
  least_lacks : Lacks t rows best
  least_lacks = go w.found
    where
      go : (best ≡ None) ⊎ ((x : ℕ) × (y : ℕ) × Direct t x y × (best ≡ Some (x, y)) × (Linked rows x y → ⊥)) → Lacks t rows best
      go (inl e) = rw e (nothing all)
        where
          all : (i j : ℕ) → Direct t i j → Linked rows i j
          all i j d = elim (w.rest i j d) [ inl h ↦ h | inr l ↦ absurd (omega (arith, low i j d, rw e at l)) ]
      go (inr (x, y, d, e, out)) = rw e (two d out lower)
        where
          lower : (k l : ℕ) → LowerTwo k l x y → Direct t k l → Linked rows k l
          lower k l b f = from b (rw e at (w.rest k l f))
            where
              from : LowerTwo k l x y → Linked rows k l ⊎ (as_one x y ≤ as_one k l) → Linked rows k l
              from b (inl h) = h
              from (inl b) (inr g) = absurd (omega (arith, low k l f))
              from (inr (c, b)) (inr g) = absurd (omega arith)

pub ends :
    {file : List ℕ} {a : ℕ} {acts vars : List Row} {setters steps : List ℕ} {rows : Rows} {best : Option (ℕ × ℕ)} {i : ℕ}
    → Underway file a acts vars setters steps rows best i → a ≤ i
    → (t : Study) → OrderableIn file a acts vars setters steps t → Met t → Lacks t rows best
ends {a = a} {i = i} under h t able met =
    let e : i ≡ a = omega (arith, under.few) in
    least_lacks
    (λ x y d. (
      omega (arith, (on_walk_usable d.one).there, able.wishes.lawful.few_actions),
      omega (arith, (on_walk_usable d.other).there, able.wishes.lawful.few_actions),
    ))
    (weighed_as (tells_direct able met) (direct_told able) (rw e at under.so_far_lem))
