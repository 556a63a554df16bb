-- A straight plan of what was loaded, ready to be told: where its steps stand, who sets what they leave and want, and who wants it.
-- Assumes nothing.
use mathlib.Core.Path.{◌≡◌, refl, ◌∙◌}
use mathlib.Core.Logic.{◌≢◌}
use mathlib.Core.Bool.{true}
use mathlib.Core.List.{List}
use Prim.Native.Nat.{ℕ, ◌<◌}
use native.Mathlib.Omega.{arith}
use lib.ListN.{length, get_or}
use Rattle.std.specs.Prelude.{Result, Ok, Err, IsOk}
use Rattle.answer.specs.declared.Refusal.{Refusal}
use Rattle.bits.specs.Bits.{within}
use Rattle.study.specs.Study.{Study}
use Rattle.study.specs.Reading.{says, reading_for}
use Rattle.lawful.specs.Lawful.{Lawful}
use Rattle.plans.specs.Plans.{StraightPlan}
use Rattle.orders.proofs.Lists.{entry_in, distinct_entries_differ}
use Rattle.orders.proofs.Members.{order_has_all}
use Rattle.tables.specs.Tables.{Tables, Holds, Loads}
use Rattle.tables.specs.declared.Loaded.{Loaded}
use Rattle.walks.specs.Walks.{var_of, pre_of, start_of, conditions_of, OnAWalk, ComesBefore, ValueOnWalk, Wants}
use Rattle.walks.proofs.Leads.{on_walk_usable}
use Rattle.walks.proofs.Ordered.{straight_met, straight_is_order}
use Rattle.walks.proofs.Wanted.{wanted_there}
use Rattle.explained.specs.Reasons.{stands}
use Rattle.explained.specs.Wanters.{Sets, Noted}
use Rattle.explained.proofs.Reasons.{in_stands, set_on_walk, left_on_walk, on_walk_lem, once}
use Rattle.reasons.specs.Known.{SetIn, Placed, Reasonable}

-- a file that says a study to a crew loads for it
pub loads_there :
    (file : List ℕ) (crew : ℕ) (t : Study) (tables : Tables) (found : Result Loaded Refusal)
    → reading_for file crew ≡ says t → Loads file crew tables found → IsOk found
loads_there file crew t tables (Ok loaded) said loads = refl
loads_there file crew t tables (Err refusal) said refuses = absurd (let z : ◌≡◌ {A = ℕ} 0 1 = cc in omega arith)

-- .. and what is loaded holds that study
pub loads_holds :
    (file : List ℕ) (crew : ℕ) (t : Study) {tables : Tables} {l : Loaded}
    → reading_for file crew ≡ says t → Loads file crew tables (Ok l) → Holds file l.vars l.actions l.seed tables t
loads_holds file crew t said (s, other, holds) = let same : s ≡ t = cc in rw same at holds

module _ {file : List ℕ} {nv na x : ℕ} {tables : Tables} {t : Study} (lawful : Lawful t) (holds : Holds file nv na x tables t) where
  module _ {plan : List ℕ} (straight : StraightPlan t plan) where
    -- each action stands once
    pub steps_differ : (j k : ℕ) → j < k → k < length plan → get_or plan j 0 ≡ get_or plan k 0 → ⊥
    steps_differ = distinct_entries_differ plan (once lawful straight)

    on_plan : (i : ℕ) → OnAWalk t i → stands plan i ≡ true
    on_plan i on = in_stands plan i (order_has_all (OnAWalk t) (ComesBefore t) plan (straight_is_order lawful straight) i on)

    pub step_on : (k : ℕ) → k < length plan → OnAWalk t (get_or plan k 0)
    step_on k h = on_walk_lem lawful straight (get_or plan k 0) (entry_in plan k h)

    set_in : {v q : ℕ} → v < length t.tasks → ValueOnWalk t v q → q ≢ start_of t v → SetIn t plan v q
    set_in there on away =
        let (i, (walked, (own, sets_it))) = set_on_walk lawful straight there on away in
        record { by = i; usable = on_walk_usable walked; var = own; post = sets_it; in_plan = on_plan i walked }

    pub left_set : (k : ℕ) → k < length plan → pre_of t (get_or plan k 0) ≢ start_of t (var_of t (get_or plan k 0)) → SetIn t plan (var_of t (get_or plan k 0)) (pre_of t (get_or plan k 0))
    left_set k h = set_in (step_on k h).there (left_on_walk lawful straight (step_on k h))

    pub wanted_set : (k : ℕ) → k < length plan → (v q : ℕ) → Wants (conditions_of t (get_or plan k 0)) v q → q ≢ start_of t v → SetIn t plan v q
    wanted_set k h v q w =
        set_in (rw lawful.a_task_each (wanted_there (lawful.action (get_or plan k 0) (on_walk_usable (step_on k h)).there).conditions v q w))
        (straight_met lawful straight (get_or plan k 0) (step_on k h) v q w)

    pub held_reasonable :
        (some : List ℕ) {places : List ℕ} (sets : Sets) → ((i : ℕ) → within some i ≡ stands plan i)
        → Noted t na (λ i. within some i) sets → Placed plan places → Reasonable tables.starts tables.acts.setters sets places t plan
    held_reasonable some {places} sets same noted placed =
        record {
          lawful = lawful;
          starts = λ v h. holds.tasks.start v (omega (arith, holds.tasks.count));
          names = λ i h force. holds.setters i (omega (arith, holds.actions.count)) force;
          noted = λ v q i lv lq li. noted v q i lv lq li ∙ (rw (holds.actions.count, same i));
          placed = placed;
        }
