-- The reasons told of a step are true and complete: each is a direct order that ends in it, from an earlier step, and every such order is told.
-- Assumes nothing.
use Prim.Native.Nat.{ℕ, zero, suc, ◌+◌, ◌≤◌, ◌<◌}
use native.Mathlib.Omega.{arith}
use native.Mathlib.Decide.{ℕ_discrete}
use mathlib.Core.Path.{◌≡◌, refl, sym, ap, subst, ◌∙◌}
use mathlib.Core.Logic.{◌⊎◌, inl, inr, ◌≢◌}
use mathlib.Core.Bool.{Bool, true, false, ◌&&◌, ◌||◌, and-eq-true_iff, true≢false}
use mathlib.Core.Option.{Option, none, some}
use mathlib.Core.List.{List, [], ◌∷◌, ◌++◌}
use lib.Dec.{eqb}
use lib.ListN.{length, get_or}
use borrow.Author.Tests.{eqb-true, eqb-false, eq-eqb, ne_eqb}
use Rattle.plain.specs.Choose.{pick}
use Rattle.plain.proofs.Tests.{picked}
use Rattle.study.specs.Study.{Condition, Study}
use Rattle.lawful.specs.Lawful.{Lawful}
use Rattle.plans.specs.Plans.{StraightPlan, Usable}
use Rattle.orders.specs.Orders.{In, Distinct, None, Plus, OrderFrom}
use Rattle.orders.proofs.Lists.{entry_in, in_has_place}
use Rattle.orders.proofs.Members.{order_distinct, order_members, order_has_all}
use Rattle.walks.specs.Walks.{var_of, pre_of, post_of, start_of, goal_of, conditions_of, OnAWalk, ComesBefore, next as by_next, sets as by-sets, leaves as by-leaves, ValueOnWalk, Wants}
use Rattle.walks.specs.Traces.{setter_of}
use Rattle.walks.proofs.Leads.{leads_in, on_walk_usable}
use Rattle.walks.proofs.Unique.{walk_first, walk_next}
use Rattle.walks.proofs.Wanted.{wanted_there}
use Rattle.walks.proofs.Ordered.{straight_met, straight_is_order}
use Rattle.walks.proofs.Traces.{setter_of_usable}
use Rattle.wanting.specs.Wanting.{wants}
use Rattle.wanting.proofs.Counting.{wants-told, wants_tells}
use Rattle.explained.specs.Facts.{Rule, next, sets, leaves, Fact, after}
use Rattle.explained.specs.Reasons.{step_of, stands, reason_by, set_reason, set_reasons, leave_reasons, reasons_of}
use Rattle.explained.specs.Meaning.{ByRule, Reason, Stated}

-- ---- facts told one after another

module _ (f : Fact) where
  stated_left : (a b : List Fact) → Stated f a → Stated f (a ++ b)
  stated_left [] b h = absurd h
  stated_left (x ∷ a) b (inl e) = inl e
  stated_left (x ∷ a) b (inr h) = inr (stated_left a b h)

  stated_right : (a b : List Fact) → Stated f b → Stated f (a ++ b)
  stated_right [] b h = h
  stated_right (x ∷ a) b h = inr (stated_right a b h)

  stated_cases : (a b : List Fact) → Stated f (a ++ b) → Stated f a ⊎ Stated f b
  stated_cases [] b h = inr h
  stated_cases (x ∷ a) b (inl e) = inl (inl e)
  stated_cases (x ∷ a) b (inr h) = elim (stated_cases a b h) [ inl g ↦ inl (inr g) | inr g ↦ inr g ]

-- ---- steps of a plan

pub in_stands : (plan : List ℕ) (i : ℕ) → In i plan → stands plan i ≡ true
unfolding stands
in_stands [] i h = absurd h
in_stands (a ∷ rest) i (inl e) = rw (eq-eqb a i (sym e))
in_stands (a ∷ rest) i (inr h) = go (eqb a i) (in_stands rest i h)
  where
    go : (b : Bool) → stands rest i ≡ true → (b || stands rest i) ≡ true
    go true e = refl
    go false e = e

pub stands_in : (plan : List ℕ) (i : ℕ) → stands plan i ≡ true → In i plan
unfolding stands
stands_in [] i h = absurd (true≢false (sym h))
stands_in (a ∷ rest) i h = go (ℕ_discrete a i) (stands_in rest i)
  where
    go : Dec (a ≡ i) → (stands rest i ≡ true → In i rest) → In i (a ∷ rest)
    go (yes e) on = inl (sym e)
    go (no n) on = inr (on (rw (ne_eqb a i n) at h))

-- an entry's step is its index, where no action stands twice
pub step_of-entry : (plan : List ℕ) → Distinct plan → (k : ℕ) → k < length plan → step_of plan (get_or plan k 0) ≡ k
unfolding step_of
step_of-entry [] d k h = absurd (omega arith)
step_of-entry (a ∷ rest) d zero h = rw (eq-eqb a a refl)
step_of-entry (a ∷ rest) (n, d) (suc k) h =
    rw (ne_eqb a (get_or rest k 0) (λ e. n (rw e (entry_in rest k (omega arith))))) (ap suc (step_of-entry rest d k (omega arith)))

module _ (member : ℕ → Type 0) (before : ℕ → ℕ → Type 0) where
  -- what comes before an entry of an order is taken, or an earlier entry
  earlier_from :
      (taken : ℕ → Type 0) (xs : List ℕ) → OrderFrom member before taken xs → (m : ℕ) → m < length xs
      → (i : ℕ) → member i → before i (get_or xs m 0) → taken i ⊎ ((k : ℕ) × ((k < m) × (get_or xs k 0 ≡ i)))
  earlier_from taken [] o m h i on b = absurd (omega arith)
  earlier_from taken (x ∷ rest) (r, o) zero h i on b = inl (r.all_before i on b)
  earlier_from taken (x ∷ rest) (r, o) (suc m) h i on b = go (earlier_from (Plus x taken) rest o m (omega arith) i on b)
    where
      go : (Plus x taken i) ⊎ ((k : ℕ) × ((k < m) × (get_or rest k 0 ≡ i)))
          → taken i ⊎ ((k : ℕ) × ((k < suc m) × (get_or (x ∷ rest) k 0 ≡ i)))
      go (inl (inl e)) = inr (0, (omega arith, sym e))
      go (inl (inr t)) = inl t
      go (inr (k, (l, e))) = inr (suc k, (omega arith, e))

-- ---- what each part tells

-- a setter as a reason
record BySetter (t : Study) (plan : List ℕ) (r : Rule) (v q : ℕ) (f : Fact) : Type 0 where
  i : ℕ
  away : q ≢ start_of t v
  setter : setter_of t v q ≡ some i
  is : f ≡ after r (step_of plan i) i v q

module _ (t : Study) (plan : List ℕ) (f : Fact) where
  set_reason_tells : (r : Rule) (v q : ℕ) → Stated f (set_reason t plan r v q) → BySetter t plan r v q f
  set_reason_tells r v q = picked (λ (l : List Fact). Stated f l → BySetter t plan r v q f) (eqb q (start_of t v)) (λ e h. absurd h) (λ e. told e (setter_of t v q) refl)
    where
      told : eqb q (start_of t v) ≡ false → (o : Option ℕ) → setter_of t v q ≡ o → Stated f (reason_by plan r v q o) → BySetter t plan r v q f
      told e none s h = absurd h
      told e (some i) s (inl g) = record { i = i; away = eqb-false q (start_of t v) e; setter = s; is = g }
      told e (some i) s (inr h) = absurd h

  set_reason_told : (r : Rule) (v q i : ℕ) → q ≢ start_of t v → setter_of t v q ≡ some i → f ≡ after r (step_of plan i) i v q → Stated f (set_reason t plan r v q)
  set_reason_told r v q i away setter is = rw (ne_eqb q (start_of t v) away, setter) (inl is)

  set_reasons_tell : (cs : List Condition) → Stated f (set_reasons t plan cs) → (v q : ℕ) × (Wants cs v q × BySetter t plan sets v q f)
  unfolding set_reasons
  set_reasons_tell [] h = absurd h
  set_reasons_tell (c ∷ rest) h =
      elim (stated_cases f (set_reason t plan sets c.var c.value) (set_reasons t plan rest) h) [
        | inl g ↦ (c.var, c.value, (inl (refl, refl), set_reason_tells sets c.var c.value g))
        | inr g ↦ let (v, q, (w, b)) = set_reasons_tell rest g in (v, q, (inr w, b))
      ]

  set_reasons_told :
      (cs : List Condition) (v q i : ℕ) → Wants cs v q → q ≢ start_of t v → setter_of t v q ≡ some i → f ≡ after sets (step_of plan i) i v q
      → Stated f (set_reasons t plan cs)
  unfolding set_reasons
  set_reasons_told [] v q i w away setter is = absurd w
  set_reasons_told (c ∷ rest) v q i (inl (e, g)) away setter is =
      stated_left f (set_reason t plan sets c.var c.value) (set_reasons t plan rest) (rw (e, g) (set_reason_told sets v q i away setter is))
  set_reasons_told (c ∷ rest) v q i (inr w) away setter is =
      stated_right f (set_reason t plan sets c.var c.value) (set_reasons t plan rest) (set_reasons_told rest v q i w away setter is)

  -- one that wants what is left
  record ByWanter (v q i : ℕ) : Type 0 where
    in_plan : stands plan i ≡ true
    wants_it : wants (conditions_of t i) v q ≡ true
    is : f ≡ after leaves (step_of plan i) i v q

  leave_reasons_tell : (v q k n : ℕ) → Stated f (leave_reasons t plan v q k n) → (i : ℕ) × ByWanter v q i
  unfolding leave_reasons
  leave_reasons_tell v q k zero h = absurd h
  leave_reasons_tell v q k (suc n) h =
      elim (stated_cases f (pick (stands plan k && wants (conditions_of t k) v q) (after leaves (step_of plan k) k v q ∷ []) []) (leave_reasons t plan v q (suc k) n) h) [
        | inl g ↦ here (stands plan k && wants (conditions_of t k) v q) refl g
        | inr g ↦ leave_reasons_tell v q (suc k) n g
      ]
    where
      here : (b : Bool) → (stands plan k && wants (conditions_of t k) v q) ≡ b → Stated f (pick b (after leaves (step_of plan k) k v q ∷ []) [])
          → (i : ℕ) × ByWanter v q i
      here true e (inl g) =
          let (a, b) = (and-eq-true_iff (stands plan k) (wants (conditions_of t k) v q)).0 e in
          (k, record { in_plan = a; wants_it = b; is = g })
      here true e (inr g) = absurd g
      here false e g = absurd g

  leave_reasons_told : (v q k n i : ℕ) → k ≤ i → i < k + n → ByWanter v q i → Stated f (leave_reasons t plan v q k n)
  unfolding leave_reasons
  leave_reasons_told v q k zero i low high b = absurd (omega arith)
  leave_reasons_told v q k (suc n) i low high b = go (ℕ_discrete i k) (λ l. leave_reasons_told v q (suc k) n i l (omega arith) b)
    where
      go : Dec (i ≡ k) → (suc k ≤ i → Stated f (leave_reasons t plan v q (suc k) n))
          → Stated f (pick (stands plan k && wants (conditions_of t k) v q) (after leaves (step_of plan k) k v q ∷ []) [] ++ leave_reasons t plan v q (suc k) n)
      go (yes e) on =
          let told : (stands plan k && wants (conditions_of t k) v q) ≡ true =
          rw (← e) ((and-eq-true_iff (stands plan i) (wants (conditions_of t i) v q)).1 (b.in_plan, b.wants_it)) in
          rw told (inl (rw e at b.is))
      go (no d) on = stated_right f (pick (stands plan k && wants (conditions_of t k) v q) (after leaves (step_of plan k) k v q ∷ []) []) (leave_reasons t plan v q (suc k) n) (on (omega arith))

-- ---- the theorem

-- a fact that is a reason of step m
pub record IsReason (t : Study) (plan : List ℕ) (m : ℕ) (f : Fact) : Type 0 where
  pub rule : Rule
  pub step : ℕ
  pub action : ℕ
  pub var : ℕ
  pub value : ℕ
  pub is : f ≡ after rule step action var value
  pub reason : Reason t plan m rule step action var value

module _ {t : Study} (lawful : Lawful t) {plan : List ℕ} (straight : StraightPlan t plan) where
  pub on_walk_lem : (i : ℕ) → In i plan → OnAWalk t i
  on_walk_lem = order_members (OnAWalk t) (ComesBefore t) plan (straight_is_order lawful straight)

  pub once : Distinct plan
  once = order_distinct (OnAWalk t) (ComesBefore t) plan (straight_is_order lawful straight)

  module _ {m : ℕ} (there : m < length plan) where
    abbrev j : ℕ
    j = get_or plan m 0

    by_rule_before : (r : Rule) (i v q : ℕ) → ByRule t r i j v q → ComesBefore t i j
    by_rule_before next i v q (a, (b, (c, d))) = by_next (a ∙ sym b) (c ∙ sym d)
    by_rule_before sets i v q (a, (b, w)) = by-sets (rw (a, b) w)
    by_rule_before leaves i v q (a, (b, w)) = by-leaves (rw (a, b) w)

    -- an action of a walk that comes before is an earlier step
    as_reason : (r : Rule) (i v q : ℕ) → OnAWalk t i → ByRule t r i j v q → Reason t plan m r (step_of plan i) i v q
    as_reason r i v q on by_rule = go (earlier_from (OnAWalk t) (ComesBefore t) None plan (straight_is_order lawful straight) m there i on (by_rule_before r i v q by_rule))
      where
        go : None i ⊎ ((k : ℕ) × ((k < m) × (get_or plan k 0 ≡ i))) → Reason t plan m r (step_of plan i) i v q
        go (inl n) = absurd n
        go (inr (k, (l, e))) =
            let s : step_of plan i ≡ k = ap (step_of plan) (sym e) ∙ step_of-entry plan once k (omega arith) in
            record { earlier = rw s l; is_step = ap (λ (x : ℕ). get_or plan x 0) s ∙ e; on_walk_lem = on; by_rule = by_rule }

  -- the walk action that sets a value other than the start which a walk comes to
  pub set_on_walk : {v q : ℕ} → v < length t.tasks → ValueOnWalk t v q → q ≢ start_of t v → (i : ℕ) × (OnAWalk t i × ((var_of t i ≡ v) × (post_of t i ≡ q)))
  set_on_walk {v} {q} there on away = go on.value
    where
      go : (q ≡ start_of t v) ⊎ ((i : ℕ) × (In i on.list × (post_of t i ≡ q))) → (i : ℕ) × (OnAWalk t i × ((var_of t i ≡ v) × (post_of t i ≡ q)))
      go (inl e) = absurd (away e)
      go (inr (i, (h, e))) =
          let own : var_of t i ≡ v = (leads_in t v (start_of t v) on.list (goal_of t v) on.walk.leads i h).1 in
          (i, (record { there = rw own there; list = on.list; walk = rw own on.walk; on = h }, (own, e)))

  -- .. and what an action of a walk leaves is such a value
  pub left_on_walk : {x : ℕ} → OnAWalk t x → ValueOnWalk t (var_of t x) (pre_of t x)
  left_on_walk {x} on =
      let (p, (there, e)) = in_has_place x on.list on.on in
      record { list = on.list; walk = on.walk; value = go p there e }
    where
      go : (p : ℕ) → p < length on.list → get_or on.list p 0 ≡ x
          → (pre_of t x ≡ start_of t (var_of t x)) ⊎ ((i : ℕ) × (In i on.list × (post_of t i ≡ pre_of t x)))
      go zero there e = inl (ap (pre_of t) (sym e) ∙ walk_first on.walk there)
      go (suc p) there e =
          inr (get_or on.list p 0, (entry_in on.list p (omega arith), sym (walk_next on.walk p there) ∙ ap (pre_of t) e))

  -- the one that the study names
  named_on_walk : {v q i : ℕ} → v < length t.tasks → ValueOnWalk t v q → q ≢ start_of t v → setter_of t v q ≡ some i → OnAWalk t i × ((var_of t i ≡ v) × (post_of t i ≡ q))
  named_on_walk {v} {q} {i} there on away named =
      let (x, (walked, (own, sets_it))) = set_on_walk there on away in
      let e = setter_of_usable lawful x (on_walk_usable walked) own sets_it in
      let same : x ≡ i = cc in
      rw (← same) (walked, (own, sets_it))

  module _ {m : ℕ} (there : m < length plan) where
    abbrev here : ℕ
    here = get_or plan m 0

    here_on : OnAWalk t here
    here_on = on_walk_lem here (entry_in plan m there)

    pub reasons_true : (f : Fact) → Stated f (reasons_of t plan here) → IsReason t plan m f
    reasons_true f h =
        elim (stated_cases f (set_reason t plan next (var_of t here) (pre_of t here)) (set_reasons t plan (conditions_of t here) ++ leave_reasons t plan (var_of t here) (pre_of t here) 0 (length t.actions)) h) [
          | inl g ↦ by_a (set_reason_tells t plan f next (var_of t here) (pre_of t here) g)
          | inr g ↦ elim (stated_cases f (set_reasons t plan (conditions_of t here)) (leave_reasons t plan (var_of t here) (pre_of t here) 0 (length t.actions)) g) [
            | inl k ↦ let (v, q, (w, b)) = set_reasons_tell t plan f (conditions_of t here) k in by_b v q w b
            | inr k ↦ let (i, b) = leave_reasons_tell t plan f (var_of t here) (pre_of t here) 0 (length t.actions) k in by_c i b
          ]
        ]
      where
        by_a : BySetter t plan next (var_of t here) (pre_of t here) f → IsReason t plan m f
        by_a b =
            let (walked, (own, sets_it)) = named_on_walk here_on.there (left_on_walk here_on) b.away b.setter in
            record {
              rule = next;
              step = step_of plan b.i;
              action = b.i;
              var = var_of t here;
              value = pre_of t here;
              is = b.is;
              reason = as_reason there next b.i (var_of t here) (pre_of t here) walked (own, (refl, (sets_it, refl)));
            }

        by_b : (v q : ℕ) → Wants (conditions_of t here) v q → BySetter t plan sets v q f → IsReason t plan m f
        by_b v q w b =
            let met = straight_met lawful straight here here_on v q w in
            let low = wanted_there (lawful.action here (on_walk_usable here_on).there).conditions v q w in
            let (walked, (own, sets_it)) = named_on_walk (rw lawful.a_task_each low) met b.away b.setter in
            record {
              rule = sets;
              step = step_of plan b.i;
              action = b.i;
              var = v;
              value = q;
              is = b.is;
              reason = as_reason there sets b.i v q walked (own, (sets_it, w));
            }

        by_c : (i : ℕ) → ByWanter t plan f (var_of t here) (pre_of t here) i → IsReason t plan m f
        by_c i b =
            record {
              rule = leaves;
              step = step_of plan i;
              action = i;
              var = var_of t here;
              value = pre_of t here;
              is = b.is;
              reason =
                  as_reason there leaves i (var_of t here) (pre_of t here) (on_walk_lem i (stands_in plan i b.in_plan))
                  (refl, (refl, wants-told (conditions_of t i) (var_of t here) (pre_of t here) b.wants_it));
            }

    -- an action of a walk does not set the start
    off_start : {i v q : ℕ} → OnAWalk t i → var_of t i ≡ v → post_of t i ≡ q → q ≢ start_of t v
    off_start {i} on own sets_it e = on.walk.ends_at_start i on.on (sets_it ∙ e ∙ ap (start_of t) (sym own))

    pub reasons_complete :
        (r : Rule) (i v q : ℕ) → OnAWalk t i → ByRule t r i here v q → Stated (after r (step_of plan i) i v q) (reasons_of t plan here)
    reasons_complete next i v q on (a, (b, (c, d))) =
        stated_left f (set_reason t plan next (var_of t here) (pre_of t here))
        (set_reasons t plan (conditions_of t here) ++ leave_reasons t plan (var_of t here) (pre_of t here) 0 (length t.actions))
        (rw (b, d) (set_reason_told t plan f next v q i (off_start on a c) (setter_of_usable lawful i (on_walk_usable on) a c) refl))
      where
        f : Fact
        f = after next (step_of plan i) i v q
    reasons_complete sets i v q on (a, (c, w)) =
        stated_right f (set_reason t plan next (var_of t here) (pre_of t here))
        (set_reasons t plan (conditions_of t here) ++ leave_reasons t plan (var_of t here) (pre_of t here) 0 (length t.actions))
        (stated_left f (set_reasons t plan (conditions_of t here)) (leave_reasons t plan (var_of t here) (pre_of t here) 0 (length t.actions))
        (set_reasons_told t plan f (conditions_of t here) v q i w (off_start on a c) (setter_of_usable lawful i (on_walk_usable on) a c) refl))
      where
        f : Fact
        f = after sets (step_of plan i) i v q
    reasons_complete leaves i v q on (b, (d, w)) =
        stated_right f (set_reason t plan next (var_of t here) (pre_of t here))
        (set_reasons t plan (conditions_of t here) ++ leave_reasons t plan (var_of t here) (pre_of t here) 0 (length t.actions))
        (stated_right f (set_reasons t plan (conditions_of t here)) (leave_reasons t plan (var_of t here) (pre_of t here) 0 (length t.actions))
        (rw (b, d) (leave_reasons_told t plan f v q 0 (length t.actions) i (omega arith) (omega (arith, (on_walk_usable on).there))
        (record {
          in_plan = in_stands plan i (order_has_all (OnAWalk t) (ComesBefore t) plan (straight_is_order lawful straight) i on);
          wants_it = wants_tells (conditions_of t i) v q w;
          is = refl;
        }))))
      where
        f : Fact
        f = after leaves (step_of plan i) i v q
