-- The conditions of an action, where they stand in the file: they fit the tables, and each is on a variable of its own.
-- Assumes nothing.
use mathlib.Core.Path.{◌≡◌, refl}
use mathlib.Core.Logic.{inl, inr}
use mathlib.Core.List.{List, [], ◌∷◌}
use Prim.Native.Nat.{ℕ, zero, suc, ◌+◌, ◌*◌, ◌≤◌, ◌<◌}
use native.Mathlib.Omega.{arith}
use lib.ListN.{length, get_or}
use Rattle.study.specs.Study.{Condition, Study, condition_at}
use Rattle.lawful.specs.Lawful.{LawfulConditions}
use Rattle.lawful.proofs.Conditions.{rising_lt}
use Rattle.walks.specs.Walks.{Wants, var_of, conditions_of}
use Rattle.tracing.specs.Facts.{Wishes}
use Rattle.wanting.specs.Wanting.{StandAt}

-- a condition stands at a place in the file, and fits the tables
pub record Here (file : List ℕ) (at : ℕ) (c : Condition) : Type 0 where
  pub room : at + 3 ≤ length file
  pub var : get_or file (at + 1) 0 ≡ c.var
  pub value : get_or file (at + 2) 0 ≡ c.value
  pub low : c.var < 32
  pub narrow : c.value < 16

-- a condition wants its value
pub wants_at : (cs : List Condition) (k : ℕ) → k < length cs → Wants cs (condition_at cs k).var (condition_at cs k).value
wants_at [] k h = absurd (omega arith)
wants_at (c ∷ rest) zero h = inl (refl, refl)
wants_at (c ∷ rest) (suc k) h = inr (wants_at rest k (omega arith))

module _ {file : List ℕ} {place many i : ℕ} {t : Study} (stand : StandAt file place many t i) where
  conditions_lawful : LawfulConditions t.counts (var_of t i) (conditions_of t i)
  conditions_lawful = (stand.lawful.action i stand.there).conditions

  pub stands_here : (at k : ℕ) → at ≡ place + 3 * k → k < many → Here file at (condition_at (conditions_of t i) k)
  stands_here at k e h =
      let has = conditions_lawful.has k (omega (arith, stand.holds.count)) in
      record {
        room = omega (arith, stand.holds.room);
        var = rw e (stand.holds.var k h);
        value = rw e (stand.holds.value k h);
        low = omega (arith, has.there, stand.lawful.few_variables);
        narrow = omega (arith, has.small, stand.lawful.few_values _ has.there);
      }

  pub condition_there : (k : ℕ) → k < many → (condition_at (conditions_of t i) k).var < length t.tasks
  condition_there k h = omega (arith, (conditions_lawful.has k (omega (arith, stand.holds.count))).there, stand.lawful.a_task_each)

  pub conditions_rise : (j k : ℕ) → j < k → k < many → (condition_at (conditions_of t i) j).var < (condition_at (conditions_of t i) k).var
  conditions_rise j k l h = rising_lt conditions_lawful j k l (omega (arith, stand.holds.count))

-- the tables of a study say where the conditions of each action stand
pub wishes_stand :
    {file : List ℕ} {a : ℕ} {vars pres places manys : List ℕ} {t : Study}
    → Wishes file a vars pres places manys t → (i : ℕ) → i < a → StandAt file (get_or places i 0) (get_or manys i 0) t i
wishes_stand w i h = record { lawful = w.lawful; there = omega (arith, w.actions); holds = w.tells_conditions i h }
