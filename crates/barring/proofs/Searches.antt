-- The search for the first condition that fails, one condition after another.
-- Assumes nothing.
use mathlib.Core.Path.{◌≡◌, refl}
use mathlib.Core.List.{List, [], ◌∷◌}
use Prim.Native.Nat.{ℕ, suc, ◌+◌, ◌*◌, ◌≤◌, ◌<◌}
use native.Mathlib.Numerals.{add-one}
use native.Mathlib.Omega.{arith}
use lib.Dec.{eqb}
use lib.ListN.{length, get_or, take, drop, drop_of_length-le}
use lib.Seq.{drop-cons, get_or-take}
use borrow.Author.Tests.{eq-eqb, ne_eqb}
use Rattle.std.specs.Prelude.{Option, None, Some}
use Rattle.plain.specs.Choose.{pick}
use Rattle.study.specs.Study.{Condition, Action, condition_at, no_condition}
use Rattle.plans.specs.Plans.{State, value_of}
use Rattle.tables.specs.Tables.{HoldsConditions}
use Rattle.tables.specs.declared.Act.{Act}
use Rattle.replays.specs.Replay.{waits_for, unmet, lacks}
use Rattle.barring.specs.declared.Want.{Want}
use Rattle.barring.specs.Stances.{stance_of}
use Rattle.barring.specs.Telling.{Tells}

unmet_at :
    (s : State) (cs : List Condition) (k : ℕ) → k < length cs
    → unmet s (drop k cs)
    ≡ pick (eqb (value_of s (condition_at cs k).var) (condition_at cs k).value) (unmet s (drop (k + 1) cs)) (waits_for (condition_at cs k).var (condition_at cs k).value)
unfolding unmet
unmet_at s cs k h = rw (add-one k, drop-cons cs k no_condition h)

module _ {file : List ℕ} {place many : ℕ} {cs : List Condition} (holds : HoldsConditions file place many cs) (s : State) where
  -- the conditions before k hold
  abbrev Passed : ℕ → Type 0
  Passed k = unmet s (drop k cs) ≡ unmet s cs

  pub condition_fails :
      (k : ℕ) → k < many → Passed k
      → (get_or s (get_or file (place + 3 * k + 1) 0) 0 ≡ get_or file (place + 3 * k + 2) 0 → ⊥)
      → Some (record { var = get_or file (place + 3 * k + 1) 0; value = get_or file (place + 3 * k + 2) 0 }) ≡ stance_of (unmet s cs)
  condition_fails k h passed =
      rw (holds.var k h, holds.value k h)
      (λ o. rw (← passed, unmet_at s cs k (omega (arith, holds.count)), ne_eqb _ _ o))

  pub condition_holds :
      (k : ℕ) → k < many → Passed k
      → get_or s (get_or file (place + 3 * k + 1) 0) 0 ≡ get_or file (place + 3 * k + 2) 0
      → Passed (k + 1)
  condition_holds k h passed =
      rw (holds.var k h, holds.value k h)
      (λ e. rw (← passed, unmet_at s cs k (omega (arith, holds.count)), eq-eqb _ _ e))

  pub conditions_hold : (k : ℕ) → many ≤ k → Passed k → None ≡ stance_of (unmet s cs)
  unfolding unmet
  conditions_hold k h passed = rw (← passed, drop_of_length-le cs {i = k} (omega (arith, holds.count)))

-- the state that a table shows: the first n entries
module _ (n : ℕ) (table : State) where
  unmet_shown :
      (cs : List Condition) → ((k : ℕ) → k < length cs → (condition_at cs k).var < n)
      → unmet (take n table) cs ≡ unmet table cs
  unfolding unmet
  unmet_shown [] small = refl
  unmet_shown (c ∷ rest) small =
      rw (get_or-take n table c.var 0 (small 0 (omega arith)), unmet_shown rest (λ k h. small (suc k) (omega arith)))

  pub lacks_shown :
      (a : Action) → a.var < n → ((k : ℕ) → k < length a.conditions → (condition_at a.conditions k).var < n)
      → lacks (take n table) a ≡ lacks table a
  unfolding lacks
  lacks_shown a small smalls = rw (get_or-take n table a.var 0 small, unmet_shown a.conditions smalls)

module _ {file : List ℕ} {act : Act} {a : Action} (tells : Tells file act a) where
  pub lacks_pre :
      (s : State) (v : ℕ) → v ≡ act.var → (get_or s v 0 ≡ act.pre → ⊥)
      → Some (record { var = act.var; value = act.pre }) ≡ stance_of (lacks s a)
  unfolding lacks
  lacks_pre s v var = rw (var, tells.var, tells.pre) (λ o. rw (ne_eqb _ _ o))

  module _ {many : ℕ} (count : many ≡ act.many) where
    conditions_held : HoldsConditions file act.place many a.conditions
    conditions_held = rw count tells.conditions

    pub conditions_in_range : (act.place + 3 * many ≤ length file) × ((k : ℕ) → k < many → get_or file (act.place + 3 * k + 1) 0 < 32)
    conditions_in_range = (
      conditions_held.room,
      λ k h. rw (conditions_held.var k h) (tells.smalls k (omega (arith, conditions_held.count))),
    )

    pub lacks_condition :
        (s : State) (v : ℕ) {r : Option Want} → v ≡ act.var → get_or s v 0 ≡ act.pre
        → ((cs : List Condition) → HoldsConditions file act.place many cs → r ≡ stance_of (unmet s cs))
        → r ≡ stance_of (lacks s a)
    unfolding lacks
    lacks_condition s v var = rw (var, tells.var, tells.pre) (λ e f. rw (eq-eqb _ _ e) (f a.conditions conditions_held))
