-- What a call's contract may allow: answers, and for a call that lends a buffer the bytes afterwards. And what such a contract is asked: that it settles the answer, that it has one, and that a refusal alters nothing.
-- Assumes nothing.
use Rattle.std.specs.Prelude.{◌≡◌, ◌≢◌, List, ℕ}
use Rattle.answer.specs.declared.Answer.{Answer}

-- ---- a call that lends a buffer

-- answers and bytes
abbrev pub Allowing : Type 1
Allowing = Answer → List ℕ → Type 0

-- an answer and the bytes it leaves, each given by an equation
abbrev pub Exactly : Answer → List ℕ → Allowing
Exactly answer bytes r after = (r ≡ answer) × (after ≡ bytes)

-- two results that are allowed are equal: all three numbers and every byte
abbrev pub Settles : Allowing → Type 0
Settles allows = (r r' : Answer) (after after' : List ℕ) → allows r after → allows r' after' → (r ≡ r') × (after ≡ after')

-- some result is allowed
pub record Answers (allows : Allowing) : Type 0 where
  pub answer : Answer
  pub bytes : List ℕ
  pub allowed : allows answer bytes

-- this result is allowed, and no other
pub record AllowsOnly (allows : Allowing) (answer : Answer) (bytes : List ℕ) : Type 0 where
  pub allowed : allows answer bytes
  pub only : (r : Answer) (after : List ℕ) → allows r after → (r ≡ answer) × (after ≡ bytes)

-- with any number but 0 no lent byte is altered
abbrev pub RefusalAltersNothing : Allowing → List ℕ → Type 0
RefusalAltersNothing allows before = (r : Answer) (after : List ℕ) → allows r after → r.number ≢ 0 → after ≡ before

-- ---- a call that lends no buffer, whatever it returns

-- two results that are allowed are equal
abbrev pub SettlesOne : {A : Type 0} → (A → Type 0) → Type 0
SettlesOne {A} allows = (r r' : A) → allows r → allows r' → r ≡ r'

-- some result is allowed
pub record AnswersOne {A : Type 0} (allows : A → Type 0) : Type 0 where
  pub answer : A
  pub allowed : allows answer
