-- `drafting::refusal` meets its contract: a step that is a refusal is answered as it is.
-- Assumes nothing.
use borrow.Enum.Refused.{opened as keys_of}
use mathlib.Core.Path.{◌≡◌, refl}
use mathlib.Core.Logic.{inl, inr}
use mathlib.Core.List.{[], ◌∷◌}
use native.Mathlib.Omega.{arith}
use types.Run.{OneOf}
use denote.Enum.Declared.{tag_of}
use Rattle.advancing.specs.declared.Step.{Step}
use Rattle.advancing.specs.declared.Step.TheVariants.{On, Refused, Done}
use Rattle.advancing.specs.contracts.Step.{the_type}
use Rattle.drafting.specs.Judges.{refusal_of}
use Rattle.drafting.specs.declared.Judged.TheVariants as Said-of
use Rattle.drafting.proofs.refusal.Goals as goal

other : (s : Step) → OneOf (0 ∷ 2 ∷ []) (tag_of the_type s) → Said-of.Refused 0 0 ≡ refusal_of s
other (On p) h = refl
other (Refused n place) h = absurd (none h)
  where
    none : OneOf (0 ∷ 2 ∷ []) 1 → ⊥
    none (inl x) = omega arith
    none (inr x) = omega arith
other (Done p) h = refl

pub returns-in-Refused : goal.returns-in-Refused
returns-in-Refused c = rw c.in-Refused.is

pub returns-in_default : goal.returns-in_default
returns-in_default c = other c.args.step (keys_of c.in_default.in_default-own.keys2)
