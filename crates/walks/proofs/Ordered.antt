-- A straight plan is an order of the walk actions that keeps 'comes before'; every variable then has a walk, and every condition is on its walk.
-- Assumes nothing.
use Prim.Native.Nat.{ℕ, ◌<◌}
use native.Mathlib.Omega.{arith}
use mathlib.Core.Path.{◌≡◌, refl, sym, ap, ◌∙◌}
use mathlib.Core.Logic.{◌⊎◌, inl, inr, ◌≢◌}
use mathlib.Core.List.{List, [], ◌∷◌}
use lib.ListN.{length}
use Rattle.study.specs.Study.{Study, action_at}
use Rattle.lawful.specs.Lawful.{Lawful}
use Rattle.plans.specs.Plans.{State, value_of, after, Usable, start_state, Runs, NeverHeld, NoneAgain, StraightPlan}
use Rattle.orders.specs.Orders.{In, None, Plus, Ready, OrderFrom, Order}
use Rattle.walks.specs.Walks.{var_of, pre_of, post_of, conditions_of, start_of, Walk, OnAWalk, Wants, ComesBefore, next, sets, leaves, Walks, Met}
use Rattle.walks.proofs.Leads.{on_walk_usable}
use Rattle.walks.proofs.Unique.{walk_unique}
use Rattle.plans.proofs.States.{after-length, start_value, start-length}
use Rattle.plans.proofs.Usable.{one_setter}
use Rattle.walks.proofs.Wanted.{wanted_holds, wanted_there, wanted_other}
use Rattle.walks.proofs.Steps.{runs_usable, none_again_in, Then, own, other, then_own, then, StepsOn, steps_on, Setter, setter_more, wanted_set, left_not_wanted}

-- between two steps of a list: what is taken stands before, and the rest behind
record SoFar (t : Study) (list : List ℕ) (e : State) (taken : ℕ → Type 0) (past : List State) (s : State) (rest : List ℕ) : Type 0 where
  full : length s ≡ length t.tasks
  runs : Runs t s rest e
  none_again : NoneAgain t past s rest
  listed : (y : ℕ) → In y rest → In y list
  either : (y : ℕ) → In y list → taken y ⊎ In y rest
  usable : (y : ℕ) → taken y → Usable t y
  held : (y : ℕ) → taken y → NeverHeld (s ∷ past) (var_of t y) (post_of t y) → ⊥
  set_by : (v q : ℕ) → value_of s v ≡ q → (q ≡ start_of t v) ⊎ Setter t taken v q

module _ {t : Study} (lawful : Lawful t) {list : List ℕ} {e : State} where
  step :
      {taken : ℕ → Type 0} {past : List State} {s : State} {x : ℕ} {rest : List ℕ}
      → SoFar t list e taken past s (x ∷ rest) → SoFar t list e (Plus x taken) (s ∷ past) (after s (action_at t.actions x)) rest
  step {taken} {past} {s} {x} {rest} f = record {
    full = after-length s (action_at t.actions x) ∙ f.full;
    runs = f.runs.2;
    none_again = f.none_again.1;
    listed = λ y h. f.listed y (inr h);
    either = λ y h. sorted y (f.either y h);
    usable = λ y h. elim h [ inl d ↦ rw d f.runs.0 | inr g ↦ f.usable y g ];
    held = λ y h n. elim h [ inl d ↦ (rw d at n).0 (then_own lawful s f.full x f.runs.0) | inr g ↦ f.held y g n.1 ];
    set_by = λ v q. from v q (then lawful s f.full x f.runs.0 v);
  }
    where
      sorted : (y : ℕ) → taken y ⊎ In y (x ∷ rest) → Plus x taken y ⊎ In y rest
      sorted y (inl g) = inl (inr g)
      sorted y (inr (inl d)) = inl (inl d)
      sorted y (inr (inr h)) = inr h

      from : (v q : ℕ) → Then t s x v → value_of (after s (action_at t.actions x)) v ≡ q → (q ≡ start_of t v) ⊎ Setter t (Plus x taken) v q
      from v q (own d p) g = inr (record { by = x; one = inl refl; var = d; post = sym p ∙ g })
      from v q (other o p) g = elim (f.set_by v q (sym p ∙ g)) [ inl k ↦ inl k | inr k ↦ inr (setter_more (λ y. inr) k) ]

  -- who set what is now the value is taken
  setter_taken :
      {taken : ℕ → Type 0} {past : List State} {s : State} {rest : List ℕ}
      → SoFar t list e taken past s rest → (y : ℕ) → OnAWalk t y → value_of s (var_of t y) ≡ post_of t y → taken y
  setter_taken {taken} f y o g = from (f.set_by (var_of t y) (post_of t y) g)
    where
      from : (post_of t y ≡ start_of t (var_of t y)) ⊎ Setter t taken (var_of t y) (post_of t y) → taken y
      from (inl k) = absurd (o.walk.ends_at_start y o.on k)
      from (inr k) =
          let same : k.by ≡ y = one_setter lawful k.by y (f.usable k.by k.one) (on_walk_usable o) k.var k.post in
          rw same at k.one

  -- the list is of the actions on walks
  module _ (on_walk_lem : (y : ℕ) → In y list → OnAWalk t y) (on_list : (y : ℕ) → OnAWalk t y → In y list) where
    ready :
        {taken : ℕ → Type 0} {past : List State} {s : State} {x : ℕ} {rest : List ℕ}
        → SoFar t list e taken past s (x ∷ rest) → Ready (OnAWalk t) (ComesBefore t) taken x
    ready {taken} {past} {s} {x} {rest} f = record {
      is_member = on_walk_lem x (f.listed x (inl refl));
      not_taken = λ h. f.held x h f.none_again.0;
      all_before = before;
    }
      where
        left : value_of (after s (action_at t.actions x)) (var_of t x) ≢ pre_of t x
        left g = (lawful.action x f.runs.0.there).changes (sym g ∙ then_own lawful s f.full x f.runs.0)

        no_longer : (y : ℕ) → Wants (conditions_of t y) (var_of t x) (pre_of t x) → taken y ⊎ In y (x ∷ rest) → taken y
        no_longer y w (inl h) = h
        no_longer y w (inr (inl d)) = absurd (wanted_other (lawful.action x f.runs.0.there).conditions (var_of t x) (pre_of t x) (rw d at w) refl)
        no_longer y w (inr (inr h)) =
            let g = step f in
            absurd (
            left_not_wanted lawful (var_of t x) (pre_of t x) (s ∷ past) (after s (action_at t.actions x)) g.full rest e g.runs
            g.none_again (λ n. n.0 f.runs.1.pre) left y h w
            )

        before : (y : ℕ) → OnAWalk t y → ComesBefore t y x → taken y
        before y o (next i p) = setter_taken f y o (ap (value_of s) i ∙ f.runs.1.pre ∙ sym p)
        before y o (sets w) = setter_taken f y o (wanted_holds s (conditions_of t x) f.runs.1.conditions (var_of t y) (post_of t y) w)
        before y o (leaves w) = no_longer y w (f.either y (on_list y o))

    order_from :
        (rest : List ℕ) (taken : ℕ → Type 0) (past : List State) (s : State)
        → SoFar t list e taken past s rest → OrderFrom (OnAWalk t) (ComesBefore t) taken rest
    order_from [] taken past s f = λ x o. elim (f.either x (on_list x o)) [ inl h ↦ h | inr h ↦ absurd h ]
    order_from (x ∷ rest) taken past s f = (ready f, order_from rest (Plus x taken) (s ∷ past) (after s (action_at t.actions x)) (step f))

module _ {t : Study} (lawful : Lawful t) {list : List ℕ} (straight : StraightPlan t list) where
  steps : (v : ℕ) → StepsOn t v (start_state t) list straight.plan.end
  steps v = steps_on lawful v (start_state t) (start-length t) list straight.plan.end straight.plan.runs

  walk_of : (v : ℕ) → v < length t.tasks → Walk t v (steps v).list
  walk_of v h = record {
    leads = rw (start_value t v, straight.plan.reached v h) at (steps v).leads;
    ends_at_start = λ i g p.
        let (h, d) = (steps v).only i g in
        (none_again_in t [] (start_state t) list straight.none_again i h).0 (start_value t (var_of t i) ∙ ap (start_of t) d ∙ sym p);
  }

  usable : (i : ℕ) → In i list → Usable t i
  usable = runs_usable t (start_state t) list straight.plan.end straight.plan.runs

  on_walk_lem : (i : ℕ) → In i list → OnAWalk t i
  on_walk_lem i h =
      let there : var_of t i < length t.tasks = omega (arith, (lawful.action i (usable i h).there).has_pre.there, lawful.a_task_each) in
      record { there = there; list = (steps (var_of t i)).list; walk = walk_of (var_of t i) there; on = (steps (var_of t i)).all i h refl }

  on_list : (i : ℕ) → OnAWalk t i → In i list
  on_list i o = ((steps (var_of t i)).only i (rw (walk_unique lawful o.walk (walk_of (var_of t i) o.there)) at o.on)).0

  pub straight_walks : Walks t
  straight_walks v h = ((steps v).list, walk_of v h)

  pub straight_met : Met t
  straight_met i o v q w = record {
    list = (steps v).list;
    walk = walk_of v (omega (arith, wanted_there (lawful.action i (on_walk_usable o).there).conditions v q w, lawful.a_task_each));
    value = from (wanted_set lawful v q (start_state t) (start-length t) list straight.plan.end straight.plan.runs i (on_list i o) w);
  }
    where
      from : (value_of (start_state t) v ≡ q) ⊎ Setter t (λ y. In y list) v q
          → (q ≡ start_of t v) ⊎ ((i : ℕ) × (In i (steps v).list × (post_of t i ≡ q)))
      from (inl g) = inl (sym g ∙ start_value t v)
      from (inr g) = inr (g.by, ((steps v).all g.by g.one g.var, g.post))

  pub straight_is_order : Order (OnAWalk t) (ComesBefore t) list
  straight_is_order = order_from lawful {list = list} on_walk_lem on_list list None [] (start_state t) (record {
    full = start-length t;
    runs = straight.plan.runs;
    none_again = straight.none_again;
    listed = λ y h. h;
    either = λ y h. inr h;
    usable = λ y h. absurd h;
    held = λ y h. absurd h;
    set_by = λ v q g. inl (sym g ∙ start_value t v);
  })
