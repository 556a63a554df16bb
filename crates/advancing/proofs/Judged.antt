-- What a judged record tells: the reading goes on where there is no fault, and nowhere else.
-- Assumes nothing.
use mathlib.Core.Path.{◌≡◌, refl, sym, ap, ◌∙◌}
use mathlib.Core.Bool.{Bool, true, false}
use mathlib.Core.Logic.{inl, inr}
use mathlib.Core.List.{[], ◌∷◌}
use Prim.Native.Nat.{ℕ}
use native.Mathlib.Omega.{arith}
use lib.Dec.{eqb}
use types.Run.{OneOf}
use denote.Enum.Declared.{tag_of}
use Rattle.plain.specs.Choose.{pick}
use Rattle.advancing.specs.declared.Progress.{Progress}
use Rattle.advancing.specs.declared.Step.{Step}
use Rattle.advancing.specs.declared.Step.TheVariants.{On, Refused}
use Rattle.advancing.specs.contracts.Step.{the_type}

pub same : {p q : Progress} → On p ≡ On q → p ≡ q
same e = cc

-- a step that has stopped is none that goes on
pub not_on : {s : Step} {p : Progress} → OneOf (1 ∷ 2 ∷ []) (tag_of the_type s) → s ≡ On p → ⊥
not_on h e = none h (ap (tag_of the_type) e)
  where
    none : {n : ℕ} → OneOf (1 ∷ 2 ∷ []) n → n ≡ 0 → ⊥
    none (inl x) z = omega arith
    none (inr x) z = omega arith

module _ (f at : ℕ) (after : Progress) {s : Step} where
  tested : (b : Bool) → s ≡ pick b (On after) (Refused f at) → tag_of the_type s ≡ 0 → b ≡ true
  tested true e t = refl
  tested false e t = absurd (let z : ◌≡◌ {A = ℕ} 0 1 = sym t ∙ ap (tag_of the_type) e in omega arith)

  pub goes_on : s ≡ pick (eqb f 0) (On after) (Refused f at) → tag_of the_type s ≡ 0 → eqb f 0 ≡ true
  goes_on e t = tested (eqb f 0) e t

  pub went_on : {q : Progress} → s ≡ pick (eqb f 0) (On after) (Refused f at) → s ≡ On q → q ≡ after
  went_on e on = same (sym on ∙ (e ∙ ap (λ (b : Bool). pick b (On after) (Refused f at)) (goes_on e (ap (tag_of the_type) on))))

  not_tested : (b : Bool) → s ≡ pick b (On after) (Refused f at) → OneOf (1 ∷ 2 ∷ []) (tag_of the_type s) → b ≡ false
  not_tested true e t = absurd (not_on t e)
  not_tested false e t = refl

  pub stops : s ≡ pick (eqb f 0) (On after) (Refused f at) → OneOf (1 ∷ 2 ∷ []) (tag_of the_type s) → eqb f 0 ≡ false
  stops e t = not_tested (eqb f 0) e t
