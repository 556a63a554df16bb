-- A step that has stopped is what the reader says of the file.
-- Assumes nothing.
use mathlib.Core.Path.{◌≡◌, refl}
use mathlib.Core.List.{List, [], ◌∷◌}
use Prim.Native.Nat.{ℕ}
use types.Run.{OneOf}
use denote.Enum.Declared.{tag_of}
use Rattle.study.specs.Reading.{Record}
use Rattle.advancing.specs.declared.Step.{Step}
use Rattle.advancing.specs.declared.Step.TheVariants.{On, Refused, Done}
use Rattle.advancing.specs.contracts.Step.{the_type}
use Rattle.advancing.proofs.Judged.{not_on}
use Rattle.drafts.specs.Drafts.{Leads}
use Rattle.drafting.specs.Judges.{JudgedAs, refusal_of}

module _ {file counts : List ℕ} {to-come : List Record} where
  pub stopped_judged : (s : Step) → OneOf (1 ∷ 2 ∷ []) (tag_of the_type s) → Leads file counts to-come s → JudgedAs file (refusal_of s)
  stopped_judged (On p) h l = absurd (not_on {p = p} h refl)
  stopped_judged (Refused n place) h l = l.refuses n place refl
  stopped_judged (Done p) h l = absurd (l.is_not_done p refl)
