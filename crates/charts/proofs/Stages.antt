-- Checking by stages: the first that finds a fault gives the answer. Such an answer is settled and is there, if at each stage there is a fault or none, and one fault gives one answer.
-- Assumes nothing.
use mathlib.Core.Logic.{◌⊎◌, inl, inr}
use Rattle.answer.specs.declared.Answer.{Answer}
use Rattle.answer.specs.Allowing.{SettlesOne, AnswersOne}

-- a fault that gives the answer, or none and what comes then
pub data Else (fault : Answer → Type 0) (faultless : Type 0) (on : Answer → Type 0) (r : Answer) : Type 0 where
  stops : fault r → Else fault faultless on r
  goes_on : faultless → on r → Else fault faultless on r

module _ {fault : Answer → Type 0} {faultless : Type 0} {on : Answer → Type 0} where
  pub else_settles :
      SettlesOne fault → ((r : Answer) → fault r → faultless → ⊥) → SettlesOne on → SettlesOne (Else fault faultless on)
  else_settles one apart rest r s (stops f) (stops g) = one r s f g
  else_settles one apart rest r s (stops f) (goes_on w _) = absurd (apart r f w)
  else_settles one apart rest r s (goes_on w _) (stops g) = absurd (apart s g w)
  else_settles one apart rest r s (goes_on _ p) (goes_on _ q) = rest r s p q

  pub else_answers : AnswersOne fault ⊎ faultless → (faultless → AnswersOne on) → AnswersOne (Else fault faultless on)
  else_answers (inl f) rest = record { answer = f.answer; allowed = stops f.allowed }
  else_answers (inr w) rest = let a = rest w in record { answer = a.answer; allowed = goes_on w a.allowed }
