-- The variable and pre of an action, as the tables tell them: they are the study's, and fit the table of steps.
-- Assumes nothing.
use mathlib.Core.Path.{◌≡◌, ◌∙◌}
use mathlib.Core.List.{List}
use Prim.Native.Nat.{ℕ, ◌+◌, ◌*◌, ◌<◌}
use native.Mathlib.Omega.{arith}
use lib.ListN.{length, get_or}
use Rattle.study.specs.Study.{Study}
use Rattle.walks.specs.Walks.{var_of, pre_of}
use Rattle.tracing.specs.Facts.{Wishes}

pub record Told (t : Study) (i x y : ℕ) : Type 0 where
  pub var : x ≡ var_of t i
  pub pre : y ≡ pre_of t i
  pub there : x < length t.tasks
  pub narrow : y < 16
  pub inside : 16 * x + y < 512

pub told :
    {file : List ℕ} {a : ℕ} {vars pres places manys : List ℕ} {t : Study}
    → Wishes file a vars pres places manys t
    → (i : ℕ) → i < a → {x y : ℕ} → x ≡ get_or vars i 0 → y ≡ get_or pres i 0 → Told t i x y
told {t = t} w i h {x} {y} is_var is_pre =
    let has = (w.lawful.action i (omega (arith, w.actions))).has_pre in
    let var : x ≡ var_of t i = is_var ∙ w.tells_var i h in
    let pre : y ≡ pre_of t i = is_pre ∙ w.tells_pre i h in
    let there : x < length t.tasks = omega (arith, has.there, w.lawful.a_task_each) in
    let narrow : y < 16 = omega (arith, has.small, w.lawful.few_values _ has.there) in
    record {
      var = var;
      pre = pre;
      there = there;
      narrow = narrow;
      inside = omega (arith, w.lawful.a_task_each, w.lawful.few_variables);
    }
