-- The trace from the goal back agrees with the walk, which is defined from the start on: it meets the start by a list exactly where that list is the walk, and where it breaks off or comes round there is no walk.
-- Assumes nothing.
use Prim.Native.Nat.{ℕ, zero, suc, ◌+◌, ◌≤◌, ◌<◌}
use native.Mathlib.Omega.{arith}
use mathlib.Core.Path.{◌≡◌, refl, sym, ap, subst, ◌∙◌}
use mathlib.Core.Logic.{◌⊎◌, inl, inr, ◌≢◌, ◌↔◌}
use mathlib.Core.Bool.{true, false, true≢false}
use mathlib.Core.Option.{Option, none, some}
use mathlib.Core.List.{List, [], ◌∷◌, ◌++◌, append-nil, append_assoc}
use lib.Dec.{eqb}
use lib.ListN.{length}
use borrow.Author.Tests.{eqb-true, eqb-false, eq-eqb, ne_eqb}
use Rattle.plain.specs.Choose.{pick}
use Rattle.plain.proofs.Tests.{picked}
use Rattle.study.specs.Study.{Action, Study}
use Rattle.study.specs.Reading.{sets_to}
use Rattle.study.proofs.Setters.{SetsAt, sets_first, sets_later}
use Rattle.lawful.specs.Lawful.{Lawful}
use Rattle.plans.specs.Plans.{Usable}
use Rattle.plans.proofs.Usable.{setter_usable, usable_sets, one_setter}
use Rattle.orders.specs.Orders.{In, Distinct}
use Rattle.orders.proofs.Lists.{distinct_below}
use Rattle.walks.specs.Walks.{var_of, pre_of, post_of, start_of, goal_of, Leads, Way, Walk}
use Rattle.walks.specs.Breaks.{Back, Unset, BreaksAt}
use Rattle.walks.specs.Traces.{setter_from, setter_of, Trace, meets, breaks, comes_round, back_by, traced_back, trace, walk_in, walk_of}
use Rattle.walks.proofs.Leads.{leads_in}
use Rattle.walks.proofs.Ways.{Shorter, way_last}
use Rattle.walks.proofs.Unique.{walk_distinct}

-- ---- who sets a value

-- action i, where the first of the list is number k, is in force and sets it
record SetBy (situation k : ℕ) (actions : List Action) (v q i : ℕ) : Type 0 where
  at : ℕ
  is : i ≡ k + at
  sets : SetsAt situation actions v q at

data Setter (situation k : ℕ) (actions : List Action) (v q : ℕ) : Option ℕ → Type 0 where
  set_by : {i : ℕ} → SetBy situation k actions v q i → Setter situation k actions v q (some i)
  set_by_none : ((j : ℕ) → SetsAt situation actions v q j → ⊥) → Setter situation k actions v q none

setter_tells : (situation k : ℕ) (actions : List Action) (v q : ℕ) → Setter situation k actions v q (setter_from situation k actions v q)
unfolding setter_from
setter_tells situation k [] v q = set_by_none (λ j s. omega (arith, s.there))
setter_tells situation k (a ∷ rest) v q =
    picked (Setter situation k (a ∷ rest) v q) (sets_to situation a v q) here (λ n. later n (setter_tells situation (suc k) rest v q))
  where
    here : sets_to situation a v q ≡ true → Setter situation k (a ∷ rest) v q (some k)
    here e = set_by {i = k} (record { at = 0; is = omega arith; sets = (sets_first situation a rest v q).0 e })

    nobody :
        sets_to situation a v q ≡ false → ((j : ℕ) → SetsAt situation rest v q j → ⊥)
        → (j : ℕ) → SetsAt situation (a ∷ rest) v q j → ⊥
    nobody e no_one zero s = true≢false (sym ((sets_first situation a rest v q).1 s) ∙ e)
    nobody e no_one (suc j) s = no_one j ((sets_later situation a rest v q j).1 s)

    later : sets_to situation a v q ≡ false → {o : Option ℕ} → Setter situation (suc k) rest v q o → Setter situation k (a ∷ rest) v q o
    later e (set_by {i = i} s) =
        set_by {i = i} (record { at = suc s.at; is = omega (arith, s.is); sets = (sets_later situation a rest v q s.at).0 s.sets })
    later e (set_by_none no_one) = set_by_none (nobody e no_one)

-- an action in force that sets a value is the one that is found for it, since no other does
pub setter_of_usable :
    {t : Study} → Lawful t → {v q : ℕ} (i : ℕ) → Usable t i → var_of t i ≡ v → post_of t i ≡ q → setter_of t v q ≡ some i
setter_of_usable {t} lawful {v} {q} i usable var post = from (setter_tells t.situation 0 t.actions v q)
  where
    from : {o : Option ℕ} → Setter t.situation 0 t.actions v q o → o ≡ some i
    from (set_by_none no_one) = absurd (no_one i (usable_sets usable var post))
    from (set_by {i = j} b) =
        let e : b.at ≡ i = one_setter lawful b.at i (setter_usable b.sets) usable (b.sets.var ∙ sym var) (b.sets.post ∙ sym post) in
        let f : j ≡ i = omega (arith, b.is) in
        ap some f

-- ---- what a trace tells

pub data Tells (t : Study) (v : ℕ) : Trace → Type 0 where
  -- the start is met
  met : {w : List ℕ} → Walk t v w → Tells t v (meets w)
  -- a value on the way that no action in force sets
  unset : {q : ℕ} → BreaksAt t v q → Tells t v (breaks q)
  -- an action was passed twice
  round : {q : ℕ} {found : List ℕ} → Back t v q found → (Distinct found → ⊥) → Tells t v comes_round

module _ (t : Study) (v : ℕ) where
  back_tells :
      (n q : ℕ) (found : List ℕ) → Back t v q found → n + length found ≡ suc (length t.actions) → Tells t v (traced_back t v n q found)
  unfolding traced_back
  back_tells zero q found back long =
      round back
      (λ d. omega (arith, distinct_below found (length t.actions) d (λ i h. (leads_in t v q found (goal_of t v) back.leads i h).0.there)))
  back_tells (suc n) q found back long =
      picked (Tells t v) (eqb q (start_of t v))
      (λ e. met (record { leads = rw (eqb-true q (start_of t v) e) at back.leads; ends_at_start = back.new }))
      (λ e. on (eqb-false q (start_of t v) e) (setter_tells t.situation 0 t.actions v q) (λ i longer. back_tells n (pre_of t i) (i ∷ found) longer (omega arith)))
    where
      on : q ≢ start_of t v → {o : Option ℕ} → Setter t.situation 0 t.actions v q o
          → ((i : ℕ) → Back t v (pre_of t i) (i ∷ found) → Tells t v (traced_back t v n (pre_of t i) (i ∷ found)))
          → Tells t v (back_by o q (λ i. traced_back t v n (pre_of t i) (i ∷ found)))
      on away (set_by_none no_one) further = unset (record { passed = found; back = back; off = away; unset = λ i u e f. no_one i (usable_sets u e f) })
      on away (set_by {i = i} s) further =
          let is : i ≡ s.at = omega (arith, s.is) in
          let post : post_of t i ≡ q = rw is s.sets.post in
          further i (record {
            leads = (rw is (setter_usable s.sets), (rw is s.sets.var, (refl, rw (← post) at back.leads)));
            new = λ j h. elim h [ inl e ↦ rw (e, post) away | inr g ↦ back.new j g ];
          })

  -- for every study: whatever the trace comes to, it says so rightly
  pub trace_tells : Tells t v (trace t v)
  unfolding trace
  trace_tells = back_tells (suc (length t.actions)) (goal_of t v) [] (record { leads = refl; new = λ i h. absurd h }) (omega arith)

  meets_start : (n q : ℕ) (found : List ℕ) → start_of t v ≡ q → traced_back t v (suc n) q found ≡ meets found
  unfolding traced_back
  meets_start n q found e = rw (eq-eqb q (start_of t v) (sym e))

  -- a value other than the start that no action in force sets: the trace breaks off there
  pub breaks_off : (n q : ℕ) (found : List ℕ) → q ≢ start_of t v → Unset t v q → traced_back t v (suc n) q found ≡ breaks q
  unfolding traced_back
  breaks_off n q found off nobody = rw (ne_eqb q (start_of t v) off) (by_setter (setter_tells t.situation 0 t.actions v q))
    where
      by_setter :
          {o : Option ℕ} → Setter t.situation 0 t.actions v q o → back_by o q (λ j. traced_back t v n (pre_of t j) (j ∷ found)) ≡ breaks q
      by_setter (set_by_none no_one) = refl
      by_setter (set_by b) = absurd (nobody b.at (setter_usable b.sets) b.sets.var b.sets.post)

  -- ---- a walk is found

  module _ (lawful : Lawful t) where
    -- a value other than the start that an action in force sets: the trace goes on from what the action leaves
    pub goes_back :
        (n i : ℕ) (found : List ℕ) → Usable t i → var_of t i ≡ v → post_of t i ≢ start_of t v
        → traced_back t v (suc n) (post_of t i) found ≡ traced_back t v n (pre_of t i) (i ∷ found)
    unfolding traced_back
    goes_back n i found usable var off =
        rw (ne_eqb (post_of t i) (start_of t v) off, setter_of_usable lawful i usable var refl)

    pub way_traced : (n q : ℕ) (front found : List ℕ) → Way t v q front → length front < n → traced_back t v n q found ≡ meets (front ++ found)
    way_traced zero q front found way h = absurd (omega arith)
    way_traced (suc n) q front found way h = go (way_last way) (way_traced n)
      where
        go : ((front ≡ []) × (start_of t v ≡ q)) ⊎ Shorter t v q front
            → ((p : ℕ) (f g : List ℕ) → Way t v p f → length f < n → traced_back t v n p g ≡ meets (f ++ g))
            → traced_back t v (suc n) q found ≡ meets (front ++ found)
        go (inl (e, f)) on = rw e (meets_start n q found f)
        go (inr s) on =
            rw (← s.post) (goes_back n s.last found s.usable s.var (rw s.post s.off))
            ∙ on (pre_of t s.last) s.front (s.last ∷ found) s.way (omega (arith, s.long))
            ∙ ap meets (sym (ap (λ (f : List ℕ). f ++ found) s.is ∙ append_assoc s.front (s.last ∷ []) found))

    walk_short : (w : List ℕ) → Walk t v w → length w ≤ length t.actions
    walk_short w walk =
        distinct_below w (length t.actions) (walk_distinct lawful walk)
        (λ i h. (leads_in t v (start_of t v) w (goal_of t v) walk.leads i h).0.there)

    pub walk_traced : (w : List ℕ) → Walk t v w → trace t v ≡ meets w
    unfolding trace
    walk_traced w walk =
        way_traced (suc (length t.actions)) (goal_of t v) w [] walk (omega (arith, walk_short w walk)) ∙ ap meets (append-nil w)

    -- the trace back from the goal meets the start by a list exactly where that is the walk
    pub trace_meets_by_the_walk : (w : List ℕ) → (trace t v ≡ meets w) ↔ Walk t v w
    trace_meets_by_the_walk w = (λ e. from (subst (Tells t v) e trace_tells), walk_traced w)
      where
        from : Tells t v (meets w) → Walk t v w
        from (met walk) = walk

    -- .. and where it breaks off or comes round there is none
    pub trace_breaks_without_walk : (q : ℕ) → trace t v ≡ breaks q → (w : List ℕ) → Walk t v w → ⊥
    trace_breaks_without_walk q e w walk = let f = walk_traced w walk in let z : ◌≡◌ {A = ℕ} 0 1 = cc in omega arith

    pub trace_round_without_walk : trace t v ≡ comes_round → (w : List ℕ) → Walk t v w → ⊥
    trace_round_without_walk e w walk = let f = walk_traced w walk in let z : ◌≡◌ {A = ℕ} 0 1 = cc in omega arith

-- the walk, or that there is none
pub data WalkOf (t : Study) (v : ℕ) : Option (List ℕ) → Type 0 where
  found : {w : List ℕ} → Walk t v w → WalkOf t v (some w)
  none_there : ((w : List ℕ) → Walk t v w → ⊥) → WalkOf t v none

pub walk_of_tells : {t : Study} → Lawful t → (v : ℕ) → WalkOf t v (walk_of t v)
unfolding walk_of
walk_of_tells {t} lawful v = go (trace t v) refl
  where
    go : (r : Trace) → trace t v ≡ r → WalkOf t v (walk_in r)
    go (meets w) e = found ((trace_meets_by_the_walk t v lawful w).0 e)
    go (breaks q) e = none_there (trace_breaks_without_walk t v lawful q e)
    go comes_round e = none_there (trace_round_without_walk t v lawful e)
