-- Conditions by what they want: when they hold, and what is so of each condition is so of what is wanted.
-- Assumes nothing.
use mathlib.Core.Path.{◌≡◌, refl, sym, ap, ◌∙◌}
use mathlib.Core.Logic.{inl, inr, ◌≢◌}
use mathlib.Core.List.{List, [], ◌∷◌}
use Prim.Native.Nat.{ℕ, suc, ◌<◌}
use native.Mathlib.Omega.{arith}
use lib.ListN.{length}
use Rattle.study.specs.Study.{Condition, condition_at}
use Rattle.lawful.specs.Lawful.{Has, LawfulConditions}
use Rattle.plans.specs.Plans.{State, value_of, Hold}
use Rattle.walks.specs.Walks.{Wants}

-- conditions hold if the state has every wanted value
pub hold_wanted : (s : State) (cs : List Condition) → ((v q : ℕ) → Wants cs v q → value_of s v ≡ q) → Hold s cs
hold_wanted s [] f = tt
hold_wanted s (c ∷ rest) f = (f c.var c.value (inl (refl, refl)), hold_wanted s rest (λ v q h. f v q (inr h)))

-- .. and only then
pub wanted_holds : (s : State) (cs : List Condition) → Hold s cs → (v q : ℕ) → Wants cs v q → value_of s v ≡ q
wanted_holds s [] hold v q h = absurd h
wanted_holds s (c ∷ rest) (e, hold) v q (inl (f, g)) = ap (value_of s) (sym f) ∙ e ∙ g
wanted_holds s (c ∷ rest) (e, hold) v q (inr h) = wanted_holds s rest hold v q h

-- what is so of each condition by its index is so of what is wanted
pub wanted-each :
    (P : ℕ → ℕ → Type 0) (cs : List Condition) → ((k : ℕ) → k < length cs → P (condition_at cs k).var (condition_at cs k).value)
    → (v q : ℕ) → Wants cs v q → P v q
wanted-each P [] f v q h = absurd h
wanted-each P (c ∷ rest) f v q (inl (e, g)) = rw (← e, ← g) (f 0 (omega arith))
wanted-each P (c ∷ rest) f v q (inr h) = wanted-each P rest (λ k b. f (suc k) (omega arith)) v q h

pub wants_has :
    (counts : List ℕ) (cs : List Condition)
    → ((k : ℕ) → k < length cs → Has counts (condition_at cs k).var (condition_at cs k).value)
    → (v q : ℕ) → Wants cs v q → Has counts v q
wants_has counts cs has = wanted-each (Has counts) cs has

module _ {counts : List ℕ} {own : ℕ} {cs : List Condition} (lawful : LawfulConditions counts own cs) where
  pub wanted_there : (v q : ℕ) → Wants cs v q → v < length counts
  wanted_there v q h = (wants_has counts cs lawful.has v q h).there

  pub wanted_other : (v q : ℕ) → Wants cs v q → v ≢ own
  wanted_other = wanted-each (λ v q. v ≢ own) cs lawful.other
