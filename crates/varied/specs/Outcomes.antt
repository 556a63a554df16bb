-- What planning a study with each of so many seeds in a row comes to, as planning answers with room for every plan.
-- Assumes nothing.
use Rattle.std.specs.Prelude.{ℕ, suc, ◌≡◌, List, [], ◌∷◌, eqb, length, take, replicate}
use Rattle.plain.specs.Choose.{pick}
use Rattle.answer.specs.declared.Answer.{Answer}
use Rattle.draw.specs.Draw.{drawn}
use Rattle.study.specs.Study.{Study}
use Rattle.planning.specs.Planning.{Plans}

-- a plan, or a refusal
pub data Outcome : Type 0 where
  planned : List ℕ → Outcome
  barred : Answer → Outcome

-- what an answer and the buffer afterwards tell
unfoldable pub outcome_of : Answer → List ℕ → Outcome
outcome_of r left = pick (eqb r.number 0) (planned (take r.first left)) (barred r)

-- 256 bytes are room for every plan
abbrev pub any_room : List ℕ
any_room = replicate 256 0

-- planning with the list that the seed draws comes to this
pub record ComesTo (t : Study) (seed : ℕ) (o : Outcome) : Type 0 where
  pub answer : Answer
  pub left : List ℕ
  pub answers : Plans t (drawn seed (length t.actions)) any_room answer left
  pub tells : outcome_of answer left ≡ o

-- .. and so with each seed from this one on
abbrev pub Come : Study → ℕ → List Outcome → Type 0
Come t seed [] = Unit {0}
Come t seed (o ∷ rest) = ComesTo t seed o × Come t (suc seed) rest
