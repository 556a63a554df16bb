-- One pass over the actions: each that is on a walk is ordered, or is the lowest that wants a value off its walk.
-- Assumes nothing.
use mathlib.Core.Path.{◌≡◌, refl, ◌∙◌}
use mathlib.Core.Logic.{◌≢◌}
use mathlib.Core.Bool.{◌||◌}
use mathlib.Core.List.{List}
use Prim.Native.Nat.{ℕ, ◌+◌, ◌*◌, ◌≤◌, ◌<◌}
use native.Mathlib.Omega.{arith}
use lib.Dec.{eqb}
use lib.ListN.{length, get_or}
use Rattle.bits.specs.Bits.{bit}
use Rattle.study.specs.Study.{Study}
use Rattle.tables.specs.Rows.{Row, start_column, OpensAction}
use Rattle.tables.specs.declared.Act.{Act}
use Rattle.walks.specs.Walks.{conditions_of}
use Rattle.planning.specs.Planning.{LowestOff}
use Rattle.tracing.proofs.StepTable.{step_leaves, on_walk_step}
use Rattle.wanting.specs.Wanting.{FirstOff}
use Rattle.wanting.proofs.Conditions.{wishes_stand}
use Rattle.wanting.proofs.Told.{Told, told}
use Rattle.wanting.proofs.OnWalks.{steps_on_walks, first_off_lowest}
use Rattle.marking.specs.Marking.{Ranked}
use Rattle.ordering.specs.Marking.{Turn, ActionMarked}
use Rattle.ordering.specs.Ordering.{OrderableIn, OrdersAll}
use Rattle.std.specs.Prelude.{Ok}
use Rattle.ordering.proofs.Passed.{Passed, none_passed, one_skipped, one_passed, all_passed}

-- no entry of the table is set
abbrev pub Unmarked : List ℕ → Type 0
Unmarked table = (j : ℕ) → get_or table j 0 ≡ 0

-- where the pass stands
pub record Underway
    (file ranks : List ℕ) (a : ℕ) (acts vars : List Row) (setters steps before before' : List ℕ) (members i : ℕ) : Type 0 where
  pub some : (t : Study) × OrderableIn file a acts vars setters steps t
  pub size : length before' ≡ 64
  pub ranked : Ranked ranks
  pub long : length ranks ≡ a
  pub small : a ≤ 64
  pub few : i ≤ a
  pub so_far_lem :
      (t : Study) → OrderableIn file a acts vars setters steps t → Unmarked before
      → Passed t ranks members before' i

pub begins :
    {file ranks : List ℕ} {a : ℕ} {acts vars : List Row} {setters steps before : List ℕ}
    → length before ≡ 64 → a ≤ 64 → length ranks ≡ a → ((i : ℕ) → i < a → get_or ranks i 0 < 64)
    → (t : Study) × OrderableIn file a acts vars setters steps t
    → Underway file ranks a acts vars setters steps before before 0 0
begins size small long low some = record {
  some = some;
  size = size;
  ranked = λ i h. low i (omega arith);
  long = long;
  small = small;
  few = omega arith;
  so_far_lem = λ t o zeros. none_passed zeros;
}

module _
    {file ranks : List ℕ} {a : ℕ} {acts vars : List Row} {setters steps before before' : List ℕ} {members i : ℕ}
    (under : Underway file ranks a acts vars setters steps before before' members i) (h : i < a) where
  -- the action's row, opened
  module _ {act : Act} (opens : OpensAction acts i act) {x y : ℕ} (wide-var : x ≡ act.var) (wide-pre : y ≡ act.pre) where
    told_here : {t : Study} → OrderableIn file a acts vars setters steps t → Told t i x y
    told_here o = told o.wishes i h (wide-var ∙ opens.var) (wide-pre ∙ opens.pre)

    pub skips : get_or steps (16 * x + y) 0 ≢ i + 2 → Underway file ranks a acts vars setters steps before before' members (i + 1)
    skips other = record {
      some = under.some;
      size = under.size;
      ranked = under.ranked;
      long = under.long;
      small = under.small;
      few = omega arith;
      so_far_lem =
          λ t o zeros. one_skipped (under.so_far_lem t o zeros)
          (λ on. other (rw ((told_here o).var, (told_here o).pre) (on_walk_step o.rowed o.wishes.lawful on)));
    }

    module _ (is : get_or steps (16 * x + y) 0 ≡ i + 2) where
      its_turn : (t : Study) → OrderableIn file a acts vars setters steps t → Turn file act (16 * x + y) (get_or ranks i 0) ranks (start_column vars) setters steps t i
      its_turn t o = record {
        surveyed = record {
          stand = rw (opens.place, opens.many) (wishes_stand o.wishes i h);
          is_rank = refl;
          actions = under.long ∙ o.wishes.actions;
          names = rw under.long o.names;
          starts = o.starts;
          rowed = o.rowed;
        };
        on_walk_lem = (step_leaves o.rowed x y i (told_here o).there (told_here o).narrow is).0;
        is_var = opens.var ∙ o.wishes.tells_var i h;
        is_pre = opens.pre ∙ o.wishes.tells_pre i h;
        is_index = rw ((told_here o).var, (told_here o).pre);
      }

      pub some_turn : (t : Study) × (j : ℕ) × Turn file act (16 * x + y) (get_or ranks i 0) ranks (start_column vars) setters steps t j
      some_turn = let (t, o) = under.some in (t, i, its_turn t o)

      pub goes_on :
          {before'' : List ℕ} {members' : ℕ}
          → ((b : ℕ) → bit members' b ≡ (eqb (get_or ranks i 0) b || bit members b))
          → length before'' ≡ 64
          → ((t : Study) (j : ℕ) → Turn file act (16 * x + y) (get_or ranks i 0) ranks (start_column vars) setters steps t j → ActionMarked t j ranks steps before' before'')
          → Underway file ranks a acts vars setters steps before before'' members' (i + 1)
      goes_on put size each = record {
        some = under.some;
        size = size;
        ranked = under.ranked;
        long = under.long;
        small = under.small;
        few = omega arith;
        so_far_lem =
            λ t o zeros.
            let turn = its_turn t o in
            let marked = each t i turn in
            one_passed (under.so_far_lem t o zeros) turn.on_walk_lem
            (steps_on_walks turn.surveyed.stand o.rowed marked.have_steps) put marked;
      }

      pub breaks_off :
          {u : ℕ}
          → ((t : Study) (j : ℕ) → Turn file act (16 * x + y) (get_or ranks i 0) ranks (start_column vars) setters steps t j → FirstOff (conditions_of t j) steps u)
          → (t : Study) → OrderableIn file a acts vars setters steps t → Unmarked before → LowestOff t i u
      breaks_off first t o zeros =
          let turn = its_turn t o in
          first_off_lowest turn.surveyed.stand o.rowed (first t i turn) turn.on_walk_lem (under.so_far_lem t o zeros).met

pub ends :
    {file ranks : List ℕ} {a : ℕ} {acts vars : List Row} {setters steps before before' : List ℕ} {members i : ℕ}
    → Underway file ranks a acts vars setters steps before before' members i → a ≤ i
    → (t : Study) → OrderableIn file a acts vars setters steps t
    → ((x y : ℕ) → x < a → y < a → get_or ranks x 0 ≡ get_or ranks y 0 → x ≡ y)
    → Unmarked before → OrdersAll t ranks before' (Ok members)
ends {a = a} {i = i} under h t o distinct zeros =
    let e : i ≡ a = omega (arith, under.few) in
    all_passed (under.so_far_lem t o zeros) (e ∙ o.wishes.actions) (rw e distinct)
