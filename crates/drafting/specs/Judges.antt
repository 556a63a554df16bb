-- What is answered of lists is what the reader says of the bytes that they stand for.
-- Assumes nothing.
use Rattle.std.specs.Prelude.{ℕ, ◌+◌, ◌*◌, ◌≡◌, List, length, Option}
use Rattle.study.specs.Study.{Roster}
use Rattle.study.specs.Reading.{says, refused, reading}
use Rattle.lawful.specs.Lengths.{bytes_of_present}
use Rattle.advancing.specs.declared.Step.{Step}
use Rattle.advancing.specs.declared.Step.TheVariants.{On, Refused, Done}
use Rattle.spelling.specs.Lists.{Lists}
use Rattle.repeats.specs.Repeats.{Repeated}
use Rattle.drafting.specs.declared.Judged.{Judged}
use Rattle.drafting.specs.declared.Judged.TheVariants as Said-of

abbrev pub JudgedAs : List ℕ → Judged → Type 0
JudgedAs file (Said-of.Good n) = ((r : Roster) × (reading file ≡ says r)) × (n ≡ length file)
JudgedAs file (Said-of.Refused n place) = reading file ≡ refused n place

-- the place of the first action that repeats an earlier one, in the file that the lists stand for, or none does
abbrev pub RepeatedIn : Lists → Option ℕ → Type 0
RepeatedIn l repeat = Repeated l.situation (bytes_of_present l.situation + 2 * length l.variables) l.actions repeat

-- the refusal of a step that does not go on
abbrev pub refusal_of : Step → Judged
refusal_of (On p) = Said-of.Refused 0 0
refusal_of (Refused n place) = Said-of.Refused n place
refusal_of (Done p) = Said-of.Refused 0 0
