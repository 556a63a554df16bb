-- An order of the walk actions that keeps 'comes before' is a straight plan, where every variable has a walk and every condition is on its walk.
-- Assumes nothing.
use mathlib.Core.Path.{◌≡◌, refl, sym, ap, ◌∙◌}
use mathlib.Core.Logic.{inl, inr, ◌≢◌}
use mathlib.Core.List.{List, [], ◌∷◌}
use Prim.Native.Nat.{ℕ, zero, suc, ◌≤◌, ◌<◌}
use native.Mathlib.Omega.{arith}
use native.Mathlib.Decide.{ℕ_discrete}
use lib.ListN.{length, get_or}
use Rattle.study.specs.Study.{Study, action_at}
use Rattle.lawful.specs.Lawful.{Lawful}
use Rattle.plans.specs.Plans.{State, value_of, May, after, start_state, Reached, Runs, NeverHeld, NoneAgain, StraightPlan}
use Rattle.orders.specs.Orders.{Distinct, None, Plus, Ready, OrderFrom, Order}
use Rattle.walks.specs.Walks.{Walk, OnAWalk, Wants, ComesBefore, next, sets, leaves, Walks, Met, var_of, pre_of, post_of, conditions_of}
use Rattle.orders.proofs.Lists.{in_has_place, distinct_entries_differ}
use Rattle.plans.proofs.States.{after_own, after_other, after-length, start_value, start-length}
use Rattle.plans.proofs.Usable.{one_setter}
use Rattle.walks.proofs.Leads.{on_walk_usable}
use Rattle.walks.proofs.Wanted.{hold_wanted, wants_has}
use Rattle.walks.proofs.Unique.{walk_unique, walk_distinct, walk_var, walk_next}
use Rattle.walks.proofs.Along.{reached, reached_left, reached_last, on_walk_lem, value_reached}

-- the state after an action, by its number
abbrev stepped : Study → State → ℕ → State
stepped t s x = after s (action_at t.actions x)

-- the first actions of a walk are taken, no other of it is, and the state has the value that they reach
pub record Stands (t : Study) (taken : ℕ → Type 0) (s : State) (v : ℕ) (xs : List ℕ) : Type 0 where
  pub place : ℕ
  pub within : place ≤ length xs
  pub done : (j : ℕ) → j < place → taken (get_or xs j 0)
  pub undone : (j : ℕ) → j < length xs → taken (get_or xs j 0) → j < place
  pub value : value_of s v ≡ reached t v xs place

-- what is so between the steps of an order
pub record Kept (t : Study) (taken : ℕ → Type 0) (s : State) (past : List State) : Type 0 where
  pub long : length s ≡ length t.tasks
  pub closed : (y z : ℕ) → taken y → OnAWalk t z → ComesBefore t z y → taken z
  pub stands : (v : ℕ) → v < length t.tasks → (xs : List ℕ) → Walk t v xs → Stands t taken s v xs
  pub fresh : (x : ℕ) → OnAWalk t x → (taken x → ⊥) → NeverHeld (s ∷ past) (var_of t x) (post_of t x)

-- from a state with a past, the list is done, ends in the goal and gives no value again
pub record StraightFrom (t : Study) (past : List State) (s : State) (list : List ℕ) : Type 0 where
  pub end : State
  pub runs : Runs t s list end
  pub goal : Reached t end
  pub none_again : NoneAgain t past s list

pub kept_first : (t : Study) → Kept t None (start_state t) []
kept_first t = record {
  long = start-length t;
  closed = λ y z h. absurd h;
  stands = λ v h xs walk. record {
    place = 0;
    within = omega arith;
    done = λ j b. absurd (omega arith);
    undone = λ j b h. absurd h;
    value = start_value t v;
  };
  fresh = λ x on free. (λ e. on.walk.ends_at_start x on.on (sym e ∙ start_value t (var_of t x)), tt);
}

-- ---- one step: the action may be done

module _ {t : Study} {taken : ℕ → Type 0} {s : State} {past : List State} (kept : Kept t taken s past)
    {x : ℕ} (ready : Ready (OnAWalk t) (ComesBefore t) taken x) where
  abbrev own : List ℕ
  own = ready.is_member.list

  abbrev own_walk : Walk t (var_of t x) own
  own_walk = ready.is_member.walk

  abbrev own_stands : Stands t taken s (var_of t x) own
  own_stands = kept.stands (var_of t x) ready.is_member.there own own_walk

  own_not_early : (j : ℕ) → j < length own → get_or own j 0 ≡ x → j ≤ own_stands.place
  own_not_early zero b e = omega arith
  own_not_early (suc i) b e =
      own_stands.undone i (omega arith)
      (ready.all_before (get_or own i 0) (on_walk_lem own_walk ready.is_member.there i (omega arith))
      (next (walk_var own_walk i (omega arith)) (sym (walk_next own_walk i b) ∙ ap (pre_of t) e)))

  own_not_late : (j : ℕ) → get_or own j 0 ≡ x → j < own_stands.place → ⊥
  own_not_late j e b = ready.not_taken (rw e at (own_stands.done j b))

  -- the action is the next of its walk
  own_next : (own_stands.place < length own) × (get_or own own_stands.place 0 ≡ x)
  own_next =
      let (j, (b, e)) = in_has_place x own ready.is_member.on in
      let f : j ≡ own_stands.place = omega (arith, own_not_early j b e, own_not_late j e) in
      (omega arith, rw (← f) e)

  pub own_value : value_of s (var_of t x) ≡ pre_of t x
  own_value = own_stands.value ∙ sym (reached_left own_walk own_stands.place own_next.0) ∙ ap (pre_of t) own_next.1

  -- a wanted value that is on the walk is reached now: what sets it is taken, and what leaves it is not
  module _ (v q : ℕ) (wanted : Wants (conditions_of t x) v q) (there : v < length t.tasks) {xs : List ℕ} (walk : Walk t v xs) (stands : Stands t taken s v xs) where
    wanted_not_early : (m : ℕ) → m ≤ length xs → reached t v xs m ≡ q → m ≤ stands.place
    wanted_not_early zero b e = omega arith
    wanted_not_early (suc j) b e =
        stands.undone j b (ready.all_before (get_or xs j 0) (on_walk_lem walk there j b) (sets (rw (walk_var walk j b, e) wanted)))

    wanted_not_late : (m : ℕ) → reached t v xs m ≡ q → m < stands.place → ⊥
    wanted_not_late m e b =
        ready.not_taken
        (kept.closed (get_or xs m 0) x (stands.done m b) ready.is_member (leaves (rw (walk_var walk m h, reached_left walk m h, e) wanted)))
      where
        h : m < length xs
        h = omega (arith, stands.within)

    wanted_value : (m : ℕ) → m ≤ length xs → reached t v xs m ≡ q → value_of s v ≡ q
    wanted_value m b e =
        let f : stands.place ≡ m = omega (arith, wanted_not_early m b e, wanted_not_late m e) in
        stands.value ∙ ap (reached t v xs) f ∙ e

  module _ (lawful : Lawful t) where
    wanted_there : (v q : ℕ) → Wants (conditions_of t x) v q → v < length t.tasks
    wanted_there v q h =
        omega (
          arith,
          (wants_has t.counts (conditions_of t x) (lawful.action x (on_walk_usable ready.is_member).there).conditions.has v q h).there,
          lawful.a_task_each,
        )

    pub wanted_met : Met t → (v q : ℕ) → Wants (conditions_of t x) v q → value_of s v ≡ q
    wanted_met met v q h =
        let on = met x ready.is_member v q h in
        let there = wanted_there v q h in
        let (m, (b, e)) = value_reached on in
        wanted_value v q h there on.walk (kept.stands v there on.list on.walk) m b e

    may : Met t → May s (action_at t.actions x)
    may met = record { pre = own_value; conditions = hold_wanted s (conditions_of t x) (wanted_met met) }

-- ---- one step: what is kept

module _ {t : Study} {taken : ℕ → Type 0} {s : State} {x : ℕ} where
  -- another variable stands where it stood
  stands_other :
      {v : ℕ} {xs : List ℕ} → v ≢ var_of t x → Walk t v xs → Stands t taken s v xs
      → Stands t (Plus x taken) (stepped t s x) v xs
  stands_other {v} {xs} o walk old = record {
    place = old.place;
    within = old.within;
    done = λ j b. inr (old.done j b);
    undone = λ j b h. elim h [ inl e ↦ absurd (o (sym (walk_var walk j b) ∙ ap (var_of t) e)) | inr g ↦ old.undone j b g ];
    value = after_other s (action_at t.actions x) v o ∙ old.value;
  }

  -- .. and that of the action one place on
  stands_own :
      {xs : List ℕ} → var_of t x < length s → Distinct xs → (old : Stands t taken s (var_of t x) xs)
      → old.place < length xs → get_or xs old.place 0 ≡ x
      → Stands t (Plus x taken) (stepped t s x) (var_of t x) xs
  stands_own {xs} there distinct old b e = record {
    place = suc old.place;
    within = b;
    done = λ j h. done_next j h (ℕ_discrete j old.place);
    undone = undone_next;
    value = after_own s (action_at t.actions x) there ∙ ap (post_of t) (sym e);
  }
    where
      done_next : (j : ℕ) → j < suc old.place → Dec (j ≡ old.place) → Plus x taken (get_or xs j 0)
      done_next j h (yes f) = inl (rw f e)
      done_next j h (no o) = inr (old.done j (omega arith))

      not_past : (j : ℕ) → j < length xs → get_or xs j 0 ≡ x → old.place < j → ⊥
      not_past j h f l = distinct_entries_differ xs distinct old.place j l h (e ∙ sym f)

      undone_next : (j : ℕ) → j < length xs → Plus x taken (get_or xs j 0) → j < suc old.place
      undone_next j h (inl f) = omega (arith, not_past j h f)
      undone_next j h (inr g) = omega (arith, old.undone j h g)

module _ {t : Study} (lawful : Lawful t) {taken : ℕ → Type 0} {s : State} {past : List State} (kept : Kept t taken s past)
    {x : ℕ} (ready : Ready (OnAWalk t) (ComesBefore t) taken x) where
  own_there : var_of t x < length s
  own_there = omega (arith, kept.long, ready.is_member.there)

  kept_closed : (y z : ℕ) → Plus x taken y → OnAWalk t z → ComesBefore t z y → Plus x taken z
  kept_closed y z (inl e) on before = inr (ready.all_before z on (rw e at before))
  kept_closed y z (inr h) on before = inr (kept.closed y z h on before)

  kept_stands :
      (v : ℕ) → v < length t.tasks → (xs : List ℕ) → Walk t v xs
      → Stands t (Plus x taken) (stepped t s x) v xs
  kept_stands v h xs walk = go (ℕ_discrete v (var_of t x))
    where
      go : Dec (v ≡ var_of t x) → Stands t (Plus x taken) (stepped t s x) v xs
      go (no o) = stands_other o walk (kept.stands v h xs walk)
      go (yes e) =
          rw (e, walk_unique lawful (rw e at walk) (own_walk kept ready))
          (stands_own own_there (walk_distinct lawful (own_walk kept ready)) (own_stands kept ready) (own_next kept ready).0 (own_next kept ready).1)

  kept_fresh :
      (y : ℕ) → OnAWalk t y → (Plus x taken y → ⊥)
      → NeverHeld (stepped t s x ∷ s ∷ past) (var_of t y) (post_of t y)
  kept_fresh y on free = (go (ℕ_discrete (var_of t y) (var_of t x)), never)
    where
      never : NeverHeld (s ∷ past) (var_of t y) (post_of t y)
      never = kept.fresh y on (λ h. free (inr h))

      go : Dec (var_of t y ≡ var_of t x) → value_of (stepped t s x) (var_of t y) ≢ post_of t y
      go (no o) e = never.0 (sym (after_other s (action_at t.actions x) (var_of t y) o) ∙ e)
      go (yes f) e =
          free (inl (one_setter lawful y x (on_walk_usable on) (on_walk_usable ready.is_member) f
          (sym e ∙ ap (value_of (stepped t s x)) f ∙ after_own s (action_at t.actions x) own_there)))

  pub kept_next : Kept t (Plus x taken) (stepped t s x) (s ∷ past)
  kept_next = record {
    long = after-length s (action_at t.actions x) ∙ kept.long;
    closed = kept_closed;
    stands = kept_stands;
    fresh = kept_fresh;
  }

-- ---- the end, and all steps

module _ {t : Study} (walks : Walks t) where
  kept_goal : {taken : ℕ → Type 0} {s : State} {past : List State} → Kept t taken s past → ((x : ℕ) → OnAWalk t x → taken x) → Reached t s
  kept_goal {taken} {s} kept all v h = stands.value ∙ reached_last walk stands.place (omega (arith, stands.within, past_last))
    where
      xs : List ℕ
      xs = (walks v h).0

      walk : Walk t v xs
      walk = (walks v h).1

      stands : Stands t taken s v xs
      stands = kept.stands v h xs walk

      past_last : stands.place < length xs → ⊥
      past_last b = omega (arith, stands.undone stands.place b (all _ (on_walk_lem walk h stands.place b)))

  straight_from :
      Lawful t → Met t → (list : List ℕ) {taken : ℕ → Type 0} {s : State} {past : List State}
      → Kept t taken s past → OrderFrom (OnAWalk t) (ComesBefore t) taken list → StraightFrom t past s list
  straight_from lawful met [] {s} kept all = record { end = s; runs = refl; goal = kept_goal kept all; none_again = tt }
  straight_from lawful met (x ∷ rest) kept (ready, order) =
      let r = straight_from lawful met rest (kept_next lawful kept ready) order in
      record {
        end = r.end;
        runs = (on_walk_usable ready.is_member, may kept ready lawful met, r.runs);
        goal = r.goal;
        none_again = (kept.fresh x ready.is_member ready.not_taken, r.none_again);
      }

pub order_is_straight : {t : Study} → Lawful t → Walks t → Met t → (list : List ℕ) → Order (OnAWalk t) (ComesBefore t) list → StraightPlan t list
order_is_straight {t} lawful walks met list order =
    let r = straight_from walks lawful met list (kept_first t) order in
    record { plan = record { end = r.end; runs = r.runs; reached = r.goal }; none_again = r.none_again }
