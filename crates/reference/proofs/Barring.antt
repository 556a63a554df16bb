-- What bars every plan is found: the lowest variable without a walk, or the lowest action with a condition off its walk.
-- Assumes nothing.
use Prim.Native.Nat.{ℕ, ◌<◌}
use mathlib.Core.Path.{◌≡◌, refl}
use mathlib.Core.Logic.{◌⊎◌, inl, inr}
use mathlib.Core.Bool.{Bool, false, not, ◌&&◌, ◌||◌}
use mathlib.Core.Option.{Option, none, some}
use mathlib.Core.List.{List, [], ◌∷◌}
use lib.Dec.{eqb}
use lib.ListN.{length}
use Rattle.answer.specs.declared.Answer.{Answer}
use Rattle.study.specs.Study.{Condition, Study}
use Rattle.lawful.specs.Lawful.{Lawful}
use Rattle.walks.specs.Walks.{conditions_of, Walk, OnAWalk, ValueOnWalk, Wants, Walks, Met}
use Rattle.walks.specs.Traces.{break_of, walk_of}
use Rattle.walks.proofs.Leads.{on_walk_usable}
use Rattle.walks.proofs.Wanted.{wanted_there}
use Rattle.walks.proofs.Breaks.{without_walk_breaks}
use Rattle.walks.proofs.Traces.{WalkOf, found, none_there, walk_of_tells}
use Rattle.planning.specs.Refusals.{without_walk, off_walk}
use Rattle.planning.specs.Planning.{LowestWithout, LowestOff}
use Rattle.reference.proofs.Tests.{Says, holds, fails, settled, says_same, says_equal, says_not, says_both, says_either}
use Rattle.reference.proofs.Searching.{lowest, Lowest, is_lowest, is_nowhere, lowest_tells}
use Rattle.reference.proofs.Meeting.{is_none, on_walk, value_on, says_on_walk, says_value_on, says_no_walk}

-- among the conditions is one on u whose value is off u's walk
unfoldable pub wants_off : Study → List Condition → ℕ → Bool
wants_off t [] u = false
wants_off t (c ∷ rest) u = (eqb c.var u && not (value_on t c.var c.value)) || wants_off t rest u

unfoldable pub lowest_without : Study → Option ℕ
lowest_without t = lowest (λ v. is_none (walk_of t v)) (length t.tasks)

unfoldable pub off_variable : Study → ℕ → Option ℕ
off_variable t i = lowest (wants_off t (conditions_of t i)) (length t.counts)

unfoldable pub off_action : Study → Option ℕ
off_action t = lowest (λ i. on_walk t i && not (is_none (off_variable t i))) (length t.actions)

abbrev pub or_zero : Option ℕ → ℕ
or_zero none = 0
or_zero (some n) = n

-- 10, 11, or nothing
abbrev pub barred_by : Study → Option ℕ → Option ℕ → Option Answer
barred_by t (some v) o = some (without_walk v (break_of t v))
barred_by t none (some i) = some (off_walk i (or_zero (off_variable t i)))
barred_by t none none = none

unfoldable pub barred : Study → Option Answer
barred t = barred_by t (lowest_without t) (off_action t)

-- ---- what is found

pub data Bar (t : Study) : Option Answer → Type 0 where
  lacks_walk : {v b : ℕ} → LowestWithout t v b → Bar t (some (without_walk v b))
  off_its_walk : {i u : ℕ} → Walks t → LowestOff t i u → Bar t (some (off_walk i u))
  no_bar : Walks t → Met t → Bar t none

-- a variable of a condition off its walk
abbrev OffAt : Study → List Condition → ℕ → Type 0
OffAt t cs u = (q : ℕ) × (Wants cs u q × (ValueOnWalk t u q → ⊥))

abbrev SomeOff : Study → ℕ → Type 0
SomeOff t i = (u : ℕ) × ((u < length t.counts) × OffAt t (conditions_of t i) u)

module _ {t : Study} (lawful : Lawful t) where
  says_wants_off : (cs : List Condition) (u : ℕ) → Says (OffAt t cs u) (wants_off t cs u)
  unfolding wants_off
  says_wants_off [] u = fails (λ h. h.1.0)
  says_wants_off (c ∷ rest) u =
      says_same to from
      (says_either (says_both (says_equal c.var u) (says_not (says_value_on lawful c.var c.value))) (says_wants_off rest u))
    where
      to : ((c.var ≡ u) × (ValueOnWalk t c.var c.value → ⊥)) ⊎ OffAt t rest u → OffAt t (c ∷ rest) u
      to (inl (e, n)) = (c.value, (inl (e, refl), rw e at n))
      to (inr (q, (w, n))) = (q, (inr w, n))

      from : OffAt t (c ∷ rest) u → ((c.var ≡ u) × (ValueOnWalk t c.var c.value → ⊥)) ⊎ OffAt t rest u
      from (q, (inl (e, f), n)) = inl (e, rw (e, f) n)
      from (q, (inr w, n)) = inr (q, (w, n))

  -- none is off: all are on
  none_off : (cs : List Condition) (u : ℕ) → (OffAt t cs u → ⊥) → (q : ℕ) → Wants cs u q → ValueOnWalk t u q
  none_off cs u n q w = settled (says_value_on lawful u q) (λ off. n (q, (w, off)))

  off_variable_tells : (i : ℕ) → Lowest (OffAt t (conditions_of t i)) (length t.counts) (off_variable t i)
  unfolding off_variable
  off_variable_tells i = lowest_tells (says_wants_off (conditions_of t i)) (length t.counts)

  off_action_tells : Lowest (λ i. OnAWalk t i × SomeOff t i) (length t.actions) (off_action t)
  unfolding off_action
  off_action_tells = lowest_tells (λ i. says_both (says_on_walk lawful i) (some_off i (off_variable_tells i))) (length t.actions)
    where
      some_off : (i : ℕ) {o : Option ℕ} → Lowest (OffAt t (conditions_of t i)) (length t.counts) o → Says (SomeOff t i) (not (is_none o))
      some_off i (is_lowest {x = u} h p l) = holds (u, (h, p))
      some_off i (is_nowhere n) = fails (λ h. n h.0 h.1.0 h.1.1)

  on_walk_met : (i : ℕ) → OnAWalk t i → (SomeOff t i → ⊥) → (u q : ℕ) → Wants (conditions_of t i) u q → ValueOnWalk t u q
  on_walk_met i o n u q w =
      none_off (conditions_of t i) u (λ h. n (u, (wanted_there (lawful.action i (on_walk_usable o).there).conditions u q w, h))) q w

  off_at :
      Walks t → (i : ℕ) → OnAWalk t i → SomeOff t i → ((j : ℕ) → j < i → OnAWalk t j × SomeOff t j → ⊥)
      → {o : Option ℕ} → Lowest (OffAt t (conditions_of t i)) (length t.counts) o → Bar t (some (off_walk i (or_zero o)))
  off_at walks i on some_off lower (is_lowest {x = u} _ (q, (w, m)) l) =
      off_its_walk walks (record {
        on_walk_lem = on;
        value = q;
        wants_it = w;
        off = m;
        lower_vars = λ v r h. none_off (conditions_of t i) v (l v h) r;
        lower_actions = λ j h o. on_walk_met j o (λ s. lower j h (o, s));
      })
  off_at walks i on some_off lower (is_nowhere n) = absurd (n some_off.0 some_off.1.0 some_off.1.1)

  pub bar_tells : Bar t (barred t)
  unfolding barred lowest_without
  bar_tells = go (lowest_tells (says_no_walk lawful) (length t.tasks)) off_action_tells
    where
      has_walk : (v : ℕ) → (((w : List ℕ) → Walk t v w → ⊥) → ⊥) → (w : List ℕ) × Walk t v w
      has_walk v n = from (walk_of_tells lawful v)
        where
          from : {o : Option (List ℕ)} → WalkOf t v o → (w : List ℕ) × Walk t v w
          from (found {w = w} walk) = (w, walk)
          from (none_there m) = absurd (n m)

      go : {o p : Option ℕ} → Lowest (λ v. (w : List ℕ) → Walk t v w → ⊥) (length t.tasks) o
          → Lowest (λ i. OnAWalk t i × SomeOff t i) (length t.actions) p → Bar t (barred_by t o p)
      go (is_lowest there without lower) _ =
          lacks_walk (record { there = there; without = without; breaks = without_walk_breaks without; lower = λ u h. has_walk u (lower u h) })
      go (is_nowhere n) (is_lowest {x = i} there (on, some_off) lower) =
          off_at (λ v h. has_walk v (n v h)) i on some_off lower (off_variable_tells i)
      go (is_nowhere n) (is_nowhere m) =
          no_bar (λ v h. has_walk v (n v h)) (λ i o. on_walk_met i o (λ s. m i (on_walk_usable o).there (o, s)))
