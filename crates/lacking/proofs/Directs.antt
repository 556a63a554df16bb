-- The orders that the tables tell are the direct orders between walk actions.
-- Assumes nothing.
use mathlib.Core.Path.{◌≡◌, refl, sym, ◌∙◌}
use mathlib.Core.Logic.{◌⊎◌, inl, inr, ◌≢◌}
use mathlib.Core.List.{List}
use Prim.Native.Nat.{ℕ, ◌+◌, ◌*◌, ◌<◌}
use native.Mathlib.Omega.{arith}
use lib.ListN.{length, get_or}
use Rattle.study.specs.Study.{Condition, Study, condition_at}
use Rattle.orders.specs.Orders.{In}
use Rattle.walks.specs.Walks.{OnAWalk, ValueOnWalk, ComesBefore, next, sets, leaves, Wants, Met, var_of, pre_of, post_of, conditions_of, start_of, goal_of}
use Rattle.walks.proofs.Leads.{leads_in, on_walk_usable}
use Rattle.walks.proofs.Wanted.{wanted-each}
use Rattle.tracing.specs.Facts.{NamesUsable}
use Rattle.tracing.proofs.Setters.{names_usable}
use Rattle.tracing.proofs.StepTable.{step_has_value, step_leaves, on_walk_step}
use Rattle.wanting.specs.Wanting.{StandAt}
use Rattle.wanting.proofs.Conditions.{wants_at, stands_here, condition_there, wishes_stand}
use Rattle.wanting.proofs.Told.{Told, told}
use Rattle.ordering.specs.Ordering.{Orderable}
use Rattle.ordering.proofs.Named.{walk_setter}
use Rattle.ordering.proofs.OneCondition.{condition}
use Rattle.charts.specs.Faults.{Direct}
use Rattle.lacking.specs.Lacking.{SetBefore, OfCondition, OfAction, OfActions}

-- the condition that wants a value
wants_place :
    (cs : List Condition) (v q : ℕ) → Wants cs v q
    → (k : ℕ) × (k < length cs) × ((condition_at cs k).var ≡ v) × ((condition_at cs k).value ≡ q)
wants_place cs =
    wanted-each (λ v q. (k : ℕ) × (k < length cs) × ((condition_at cs k).var ≡ v) × ((condition_at cs k).value ≡ q)) cs
    (λ k h. (k, h, refl, refl))

-- the walk action that sets a value on a walk, if that is not the start, is named for it
pub record SetOnWalk (t : Study) (v q x : ℕ) : Type 0 where
  pub on_walk_lem : OnAWalk t x
  pub var : var_of t x ≡ v
  pub post : post_of t x ≡ q

named_on_walk :
    {a : ℕ} (setters : List ℕ) {t : Study} → a ≡ length t.actions → NamesUsable a setters t
    → {v q : ℕ} → v < length t.tasks → ValueOnWalk t v q → q ≢ start_of t v → SetOnWalk t v q (get_or setters (16 * v + q) 0)
named_on_walk setters {t} actions names {v} {q} there on away = go on.value
  where
    go : (q ≡ start_of t v) ⊎ ((i : ℕ) × (In i on.list × (post_of t i ≡ q))) → SetOnWalk t v q (get_or setters (16 * v + q) 0)
    go (inl e) = absurd (away e)
    go (inr (x, (h, e))) =
        let (usable, own) = leads_in t v (start_of t v) on.list (goal_of t v) on.walk.leads x h in
        rw (names_usable setters actions names x usable own e)
        (record {
          on_walk_lem = record { there = rw own there; list = on.list; walk = rw own on.walk; on = h };
          var = own;
          post = e;
        })

module _
    {file : List ℕ} {a : ℕ} {vars pres places manys firsts setters steps : List ℕ} {t : Study}
    (able : Orderable file a vars pres places manys firsts setters steps t) where
  -- an action's row
  row : (i : ℕ) → i < a → Told t i (get_or vars i 0) (get_or pres i 0)
  row i h = told able.wishes i h refl refl

  stand : (i : ℕ) → i < a → StandAt file (get_or places i 0) (get_or manys i 0) t i
  stand i h = wishes_stand able.wishes i h

  below : {i : ℕ} → OnAWalk t i → i < a
  below on = omega (arith, able.wishes.actions, (on_walk_usable on).there)

  start : (v : ℕ) → v < length t.tasks → get_or firsts v 0 ≡ start_of t v
  start v h = able.starts v h

  -- what sets the value comes before i, as a walk action that wants it or leaves it
  set_before :
      {v q i x y : ℕ} → v < length t.tasks → ValueOnWalk t v q → SetBefore q (get_or firsts v 0) (get_or setters (16 * v + q) 0) i x y
      → SetOnWalk t v q x × (y ≡ i)
  set_before {v} {q} there on (away, (is, e)) = (
    rw is (named_on_walk setters able.wishes.actions able.names there on (λ f. away (f ∙ sym (start v there)))),
    e,
  )

  -- .. and back
  before_set :
      {v q i x : ℕ} → v < length t.tasks → OnAWalk t x → var_of t x ≡ v → post_of t x ≡ q
      → SetBefore q (get_or firsts v 0) (get_or setters (16 * v + q) 0) i x i
  before_set {v} there on e f =
      let (away, named) = walk_setter setters able.wishes.actions able.names on e f in
      (λ g. away (g ∙ start v there), (sym named, refl))

  -- ---- one walk action

  module _ (met : Met t) {i : ℕ} (h : i < a) (on : OnAWalk t i) where
    -- condition k, as it stands in the file
    module _ (k : ℕ) (l : k < get_or manys i 0) where
      is_var : get_or file (get_or places i 0 + 3 * k + 1) 0 ≡ (condition t i k).var
      is_var = (stand i h).holds.var k l

      is_value : get_or file (get_or places i 0 + 3 * k + 2) 0 ≡ (condition t i k).value
      is_value = (stand i h).holds.value k l

      wanted : Wants (conditions_of t i) (condition t i k).var (condition t i k).value
      wanted = wants_at (conditions_of t i) k (omega (arith, (stand i h).holds.count))

      narrow : (condition t i k).value < 16
      narrow = (stands_here (stand i h) (get_or places i 0 + 3 * k) k refl l).narrow

      condition_direct : {x y : ℕ} → OfCondition firsts setters steps i (condition t i k).var (condition t i k).value x y → Direct t x y
      condition_direct (inl s) =
          let (setter, e) = set_before (condition_there (stand i h) k l) (met i on _ _ wanted) s in
          rw e (record { one = setter.on_walk_lem; other = on; comes_before_lem = sets (rw (setter.var, setter.post) wanted) })
      condition_direct (inr (e, is)) =
          let there = condition_there (stand i h) k l in
          let (leaver, (own, pre)) = step_leaves able.rowed (condition t i k).var (condition t i k).value _ there narrow is in
          rw e (record { one = on; other = leaver; comes_before_lem = leaves (rw (own, pre) wanted) })

    left_on_walk : ValueOnWalk t (var_of t i) (pre_of t i)
    left_on_walk =
        step_has_value able.rowed (var_of t i) (pre_of t i) on.there (rw (row i h).pre at (row i h).narrow)
        (λ e. omega (arith, on_walk_step able.rowed able.wishes.lawful on))

    action_direct :
        {x y : ℕ}
        → OfAction file firsts setters steps (get_or vars i 0) (get_or pres i 0) (get_or places i 0)
        (get_or manys i 0) i x y → Direct t x y
    action_direct (inl s) =
        let (setter, e) = set_before on.there left_on_walk (rw ((row i h).var, (row i h).pre) at s) in
        rw e (record { one = setter.on_walk_lem; other = on; comes_before_lem = next setter.var setter.post })
    action_direct (inr (k, l, s)) = condition_direct k l (rw (is_var k l, is_value k l) at s)

  -- ---- all

  pub tells_direct : Met t → (x y : ℕ) → OfActions file firsts setters steps vars pres places manys a x y → Direct t x y
  tells_direct met x y (i, h, is, s) =
      action_direct met h (step_leaves able.rowed _ _ i (row i h).there (row i h).narrow is).0 s

  -- a walk action tells, by its row or by a condition
  module _ {i x y : ℕ} (on : OnAWalk t i) where
    tells :
        OfAction file firsts setters steps (var_of t i) (pre_of t i) (get_or places i 0) (get_or manys i 0) i x y
        → OfActions file firsts setters steps vars pres places manys a x y
    tells s =
        let r = row i (below on) in (
          i,
          below on,
          rw (r.var, r.pre) (on_walk_step able.rowed able.wishes.lawful on),
          rw (r.var, r.pre) s,
        )

    tells_wanted :
        (v q : ℕ) → Wants (conditions_of t i) v q
        → (v < length t.tasks → OfCondition firsts setters steps i v q x y)
        → OfActions file firsts setters steps vars pres places manys a x y
    tells_wanted v q w s =
        let (k, l, e, f) = wants_place (conditions_of t i) v q w in
        let st = stand i (below on) in
        let m : k < get_or manys i 0 = omega (arith, st.holds.count) in
        tells (inr (k, m, rw (st.holds.var k m, st.holds.value k m, e, f) (s (rw e at (condition_there st k m)))))

  pub direct_told : (x y : ℕ) → Direct t x y → OfActions file firsts setters steps vars pres places manys a x y
  direct_told x y d = go d.comes_before_lem
    where
      go : ComesBefore t x y → OfActions file firsts setters steps vars pres places manys a x y
      go (next e f) = tells d.other (inl (before_set d.other.there d.one e f))
      go (sets w) = tells_wanted d.other _ _ w (λ there. inl (before_set there d.one refl refl))
      go (leaves w) = tells_wanted d.one _ _ w (λ there. inr (refl, on_walk_step able.rowed able.wishes.lawful d.other))
