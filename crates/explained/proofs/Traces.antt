-- What is told of refusal 10 is true, and one text: each line of the trace says what holds of the study, and there is one such trace.
-- Assumes nothing.
use Prim.Native.Nat.{ℕ}
use mathlib.Core.Path.{◌≡◌, refl, sym, ap, subst, ◌∙◌}
use mathlib.Core.Logic.{◌⊎◌, inl, inr, ◌≢◌}
use mathlib.Core.List.{List, [], ◌∷◌}
use Rattle.study.specs.Study.{Study}
use Rattle.lawful.specs.Lawful.{Lawful}
use Rattle.plans.specs.Plans.{Usable}
use Rattle.plans.proofs.Usable.{one_setter}
use Rattle.orders.specs.Orders.{In}
use Rattle.walks.specs.Walks.{var_of, pre_of, post_of, start_of, goal_of, Walk}
use Rattle.walks.specs.Breaks.{Trail, Back, ComesRound}
use Rattle.walks.proofs.Breaks.{trail_joined}
use Rattle.explained.specs.Facts.{Fact, goal, set, unset, round}
use Rattle.explained.specs.Refusals.{Traced, comes_back, breaks_off, goes_on, TracedFromGoal}
use Rattle.explained.specs.Meaning.{Says, Each}

-- ---- one trace

module _ {t : Study} (lawful : Lawful t) {v : ℕ} where
  pub traced_once : {q : ℕ} {passed : List ℕ} {a b : List Fact} → Traced t v q passed a → Traced t v q passed b → a ≡ b
  traced_once (comes_back h) (comes_back k) = refl
  traced_once (comes_back h) (breaks_off n u) = absurd (n h)
  traced_once (comes_back h) (goes_on n u e f r) = absurd (n h)
  traced_once (breaks_off n u) (comes_back k) = absurd (n k)
  traced_once (breaks_off n u) (breaks_off m w) = refl
  traced_once (breaks_off n u) (goes_on {i = i} m w e f r) = absurd (u i w e f)
  traced_once (goes_on n u e f r) (comes_back k) = absurd (n k)
  traced_once (goes_on {i = i} n u e f r) (breaks_off m w) = absurd (w i u e f)
  traced_once {q} {passed} (goes_on {i = i} {rest = x} n u e f r) (goes_on {i = j} {rest = y} m w g h s) =
      let same : i ≡ j = one_setter lawful i j u w (e ∙ sym g) (f ∙ sym h) in
      let rest : x ≡ y = traced_once r (subst (λ (k : ℕ). Traced t v (pre_of t k) (q ∷ passed) y) (sym same) s) in
      cc

  pub traced_from_goal_once : {a b : List Fact} → TracedFromGoal t v a → TracedFromGoal t v b → a ≡ b
  traced_from_goal_once p q = p.told ∙ ap (λ (r : List Fact). goal v (goal_of t v) ∷ r) (traced_once p.traced q.traced) ∙ sym q.told

-- ---- true

-- a trace with no walk to find never meets the start, and each value that it passed leads on to where it is
module _ {t : Study} {v : ℕ} (none : (list : List ℕ) → Walk t v list → ⊥) where
  away : {q : ℕ} {found : List ℕ} → Back t v q found → q ≢ start_of t v
  away {q} {found} back e = none found (record { leads = rw e at back.leads; ends_at_start = back.new })

  -- from each value passed, the actions passed since; by the values, the last first
  abbrev Since : ℕ → List ℕ → Type 0
  Since q [] = Unit {0}
  Since q (p ∷ rest) = ((first : ℕ) × ((others : List ℕ) × Trail t v q (first ∷ others) p)) × Since q rest

  further : {q i : ℕ} (passed : List ℕ) → Trail t v (pre_of t i) (i ∷ []) q → Since q passed → Since (pre_of t i) passed
  further [] step since = tt
  further {q} {i} (p ∷ rest) step ((first, (others, trail)), since) =
      ((i, (first ∷ others, trail_joined step trail)), further rest step since)

  circle : {q : ℕ} (passed : List ℕ) → Since q passed → In q passed → (first : ℕ) × ((others : List ℕ) × Trail t v q (first ∷ others) q)
  circle [] since h = absurd h
  circle {q} (p ∷ rest) (here, since) (inl e) =
      let (first, (others, trail)) = here in (first, (others, subst (λ (x : ℕ). Trail t v q (first ∷ others) x) (sym e) trail))
  circle (p ∷ rest) (here, since) (inr h) = circle rest since h

  traced_true :
      {q : ℕ} {passed : List ℕ} {facts : List Fact} (found : List ℕ)
      → Back t v q found → Since q passed → Traced t v q passed facts → Each (Says t) facts
  traced_true {q} {passed} found back since (comes_back h) =
      let (first, (others, trail)) = circle passed since h in
      ((record { value = q; passed = found; back = back; first = first; others = others; circle = trail }, refl), tt)
  traced_true found back since (breaks_off n u) = (u, tt)
  traced_true {q} {passed} found back since (goes_on {i = i} n u e f r) =
      let step : Trail t v (pre_of t i) (i ∷ []) q =
      record {
        leads = (u, (e, (refl, f)));
        new = λ j h. elim h [ inl k ↦ rw (k, f) (away back) | inr k ↦ absurd k ];
      } in
      ((u, (e, (f, refl))), traced_true (i ∷ found) (trail_joined step back) ((i, ([], step)), further passed step since) r)

  pub traced_from_goal_true : {facts : List Fact} → TracedFromGoal t v facts → Each (Says t) facts
  traced_from_goal_true p =
      rw p.told
      (refl, traced_true [] (record { leads = refl; new = λ i h. absurd h }) tt p.traced)
