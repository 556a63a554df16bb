-- One pass over the actions: those of a set that want a value are put into the value's set.
-- Assumes nothing.
use mathlib.Core.Path.{◌≡◌, refl, sym, ◌∙◌}
use mathlib.Core.Bool.{Bool, true, false, ◌&&◌, ◌||◌}
use mathlib.Core.List.{List}
use Prim.Native.Nat.{ℕ, ◌+◌, ◌≤◌, ◌<◌}
use native.Mathlib.Omega.{arith}
use native.Mathlib.Decide.{ℕ_discrete, dec_lt}
use lib.Dec.{ltb}
use lib.ListN.{length, get_or}
use borrow.Author.Tests.{eq-eqb, ne_eqb, lt-ltb, le-ltb}
use Rattle.bits.specs.Bits.{within}
use Rattle.study.specs.Study.{Study}
use Rattle.walks.specs.Walks.{conditions_of}
use Rattle.tracing.specs.Facts.{Wishes}
use Rattle.wanting.specs.Wanting.{wants, StandAt}
use Rattle.wanting.proofs.Conditions.{wishes_stand}
use Rattle.explained.specs.Wanters.{Sets, set_at, InFours, AllEmpty, Noted}
use Rattle.wanters.proofs.OneAction.{PutIn}

-- ---- one action more

ltb_next : (x i : ℕ) → (i ≡ x → ⊥) → ltb x (i + 1) ≡ ltb x i
ltb_next x i d = from (dec_lt x i)
  where
    from : Dec (x < i) → ltb x (i + 1) ≡ ltb x i
    from (yes h) = lt-ltb x (i + 1) (omega arith) ∙ sym (lt-ltb x i h)
    from (no h) = le-ltb x (i + 1) (omega arith) ∙ sym (le-ltb x i (omega arith))

none_noted : (t : Study) (among : ℕ → Bool) (sets : Sets) → AllEmpty sets → Noted t 0 among sets
none_noted t among sets empty v q x low narrow b = rw (le-ltb x 0 (omega arith)) (empty _ x)

module _ (t : Study) (among : ℕ → Bool) (sets : Sets) (i : ℕ) (noted : Noted t i among sets) where
  -- one that is not looked at
  one_skipped : among i ≡ false → Noted t (i + 1) among sets
  one_skipped out v q x low narrow b = from (ℕ_discrete i x)
    where
      from : Dec (i ≡ x) → within (set_at sets v q) x ≡ (ltb x (i + 1) && (among x && wants (conditions_of t x) v q))
      from (yes e) = rw (noted v q x low narrow b, ← e, le-ltb i i (omega arith), lt-ltb i (i + 1) (omega arith), out)
      from (no d) = rw (ltb_next x i d) (noted v q x low narrow b)

  -- one that is
  one_noted : (sets' : Sets) → among i ≡ true → PutIn (conditions_of t i) i sets sets' → Noted t (i + 1) among sets'
  one_noted sets' here put v q x low narrow b = from (ℕ_discrete i x)
    where
      taken : (w : Bool) → ((true && w) || false) ≡ w
      taken true = refl
      taken false = refl

      from : Dec (i ≡ x) → within (set_at sets' v q) x ≡ (ltb x (i + 1) && (among x && wants (conditions_of t x) v q))
      from (yes e) =
          rw (
            put v q x low narrow,
            noted v q x low narrow b,
            ← e,
            eq-eqb i i refl,
            le-ltb i i (omega arith),
            lt-ltb i (i + 1) (omega arith),
            here,
          )
          (taken (wants (conditions_of t i) v q))
      from (no d) = rw (put v q x low narrow, ne_eqb i x d, ltb_next x i d) (noted v q x low narrow b)

-- ---- where the pass stands

pub record Underway (file : List ℕ) (a : ℕ) (some vars pres places manys : List ℕ) (sets sets' : Sets) (i : ℕ) : Type 0 where
  pub study : (t : Study) × Wishes file a vars pres places manys t
  pub size : length sets' ≡ 512
  pub fours : InFours sets'
  pub few : i ≤ a
  pub so_far_lem : (t : Study) → Wishes file a vars pres places manys t → AllEmpty sets → Noted t i (λ x. within some x) sets'

pub begins :
    {file : List ℕ} {a : ℕ} {some vars pres places manys : List ℕ} {sets : Sets}
    → length sets ≡ 512 → InFours sets → (t : Study) × Wishes file a vars pres places manys t
    → Underway file a some vars pres places manys sets sets 0
begins {some = some} {sets = sets} size fours study = record {
  study = study;
  size = size;
  fours = fours;
  few = omega arith;
  so_far_lem = λ t w empty. none_noted t (λ x. within some x) sets empty;
}

module _
    {file : List ℕ} {a : ℕ} {some vars pres places manys : List ℕ} {sets sets' : Sets} {i : ℕ}
    (under : Underway file a some vars pres places manys sets sets' i) (h : i < a) where
  pub few_actions : a ≤ 256
  few_actions = let (t, w) = under.study in omega (arith, w.actions, w.lawful.few_actions)

  pub conditions_here : (t : Study) × (j : ℕ) × StandAt file (get_or places i 0) (get_or manys i 0) t j
  conditions_here = let (t, w) = under.study in (t, i, wishes_stand w i h)

  pub skips : within some i ≡ false → Underway file a some vars pres places manys sets sets' (i + 1)
  skips out = record {
    study = under.study;
    size = under.size;
    fours = under.fours;
    few = omega arith;
    so_far_lem = λ t w empty. one_skipped t (λ x. within some x) sets' i (under.so_far_lem t w empty) out;
  }

  pub goes_on :
      {sets'' : Sets} → within some i ≡ true
      → ((length sets'' ≡ 512) × InFours sets'')
      × ((t : Study) → StandAt file (get_or places i 0) (get_or manys i 0) t i → PutIn (conditions_of t i) i sets' sets'')
      → Underway file a some vars pres places manys sets sets'' (i + 1)
  goes_on {sets''} here ((size, fours), put) = record {
    study = under.study;
    size = size;
    fours = fours;
    few = omega arith;
    so_far_lem = λ t w empty. one_noted t (λ x. within some x) sets' i (under.so_far_lem t w empty) sets'' here (put t (wishes_stand w i h));
  }

pub ends :
    {file : List ℕ} {a : ℕ} {some vars pres places manys : List ℕ} {sets sets' : Sets} {i : ℕ}
    → Underway file a some vars pres places manys sets sets' i → a ≤ i
    → (t : Study) → Wishes file a vars pres places manys t → AllEmpty sets → Noted t a (λ x. within some x) sets'
ends {a = a} {i = i} under h t w empty = let e : i ≡ a = omega (arith, under.few) in rw e at (under.so_far_lem t w empty)
