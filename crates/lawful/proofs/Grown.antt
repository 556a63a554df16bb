-- What is lawful stays so as it grows by a variable or a condition, and with other situations.
-- Assumes nothing.
use mathlib.Core.Path.{◌≡◌, sym}
use mathlib.Core.Logic.{◌≢◌}
use mathlib.Core.Bool.{true}
use mathlib.Core.List.{List, [], ◌∷◌, ◌++◌}
use Prim.Native.Nat.{ℕ, suc, ◌<◌}
use native.Mathlib.Omega.{arith}
use native.Mathlib.Decide.{dec_lt}
use lib.ListN.{length, get_or-append}
use lib.Seq.{get_or_at}
use Rattle.plain.proofs.Lists.{length_more, each_more}
use Rattle.study.specs.Study.{Condition, Action, condition_at, no_condition}
use Rattle.study.specs.Reading.{above, with_condition, within}
use Rattle.lawful.specs.Lawful.{Has, LawfulConditions, LawfulAction}
use Rattle.lawful.proofs.Faults.{above_last}

-- one variable more
module _ (counts : List ℕ) (n : ℕ) where
  pub has_more : {v q : ℕ} → Has counts v q → Has (counts ++ (n ∷ [])) v q
  has_more {v} h = record {
    there = omega (arith, length_more counts n);
    small = rw (get_or-append counts (n ∷ []) 0 v h.there) h.small;
  }

  pub action_more : {a : Action} → LawfulAction counts a → LawfulAction (counts ++ (n ∷ [])) a
  action_more h = record {
    has_pre = has_more h.has_pre;
    has_post = has_more h.has_post;
    changes = h.changes;
    conditions = record {
      has = λ k g. has_more (h.conditions.has k g);
      other = h.conditions.other;
      rising = h.conditions.rising;
    };
  }

-- one condition more
conditions_more :
    {counts : List ℕ} {own : ℕ} (cs : List Condition) (c : Condition)
    → LawfulConditions counts own cs → Has counts c.var c.value → c.var ≢ own → above cs c.var ≡ true
    → LawfulConditions counts own (cs ++ (c ∷ []))
conditions_more {counts} {own} cs c l h o a = record {
  has = each_more (λ _ x. Has counts x.var x.value) cs c no_condition l.has h;
  other = each_more (λ _ x. x.var ≢ own) cs c no_condition l.other o;
  rising = λ k g. next k g (dec_lt (suc k) (length cs));
}
  where
    next : (k : ℕ) → suc k < length (cs ++ (c ∷ [])) → Dec (suc k < length cs)
        → (condition_at (cs ++ (c ∷ [])) k).var < (condition_at (cs ++ (c ∷ [])) (suc k)).var
    next k g (yes w) = rw (get_or-append cs (c ∷ []) no_condition k (omega arith), get_or-append cs (c ∷ []) no_condition (suc k) w) (l.rising k w)
    next k g (no w) =
        let e : suc k ≡ length cs = omega (arith, length_more cs c) in
        rw (get_or-append cs (c ∷ []) no_condition k (omega arith), get_or_at cs c [] no_condition (suc k) (sym e)) (above_last cs c.var a k e)

pub with-condition :
    {counts : List ℕ} {a : Action} {v q : ℕ}
    → LawfulAction counts a → Has counts v q → v ≢ a.var → above a.conditions v ≡ true → LawfulAction counts (with_condition a v q)
with-condition {a = a} {v = v} {q = q} l h o b = record {
  has_pre = l.has_pre;
  has_post = l.has_post;
  changes = l.changes;
  conditions = conditions_more a.conditions (record { var = v; value = q }) l.conditions h o b;
}

-- other situations
pub with_situations : {counts : List ℕ} {a : Action} (n : ℕ) → LawfulAction counts a → LawfulAction counts (within a n)
with_situations n l = record { has_pre = l.has_pre; has_post = l.has_post; changes = l.changes; conditions = l.conditions }
