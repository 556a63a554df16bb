-- The call that writes a file: its contract settles the answer and the bytes, allows some, and lets no refusal alter a lent byte.
-- Assumes nothing.
use mathlib.Core.Path.{◌≡◌, refl, sym, ap, ◌∙◌}
use mathlib.Core.Bool.{Bool, true, false}
use mathlib.Core.List.{List, ◌++◌}
use Prim.Native.Nat.{ℕ}
use lib.Dec.{leb}
use lib.ListN.{length, drop}
use Rattle.plain.specs.Choose.{pick}
use Rattle.answer.specs.declared.Answer.{Answer}
use Rattle.answer.specs.Answers.{done, refusal}
use Rattle.answer.specs.Allowing.{Allowing, Exactly, Settles, Answers, RefusalAltersNothing}
use Rattle.study.specs.Study.{Roster}
use Rattle.study.specs.Reading.{Said, says, refused, reading}
use Rattle.spelling.specs.Lists.{file_of}
use Rattle.spelling.specs.Lent.{lent}
use Rattle.spelling.specs.Write.{Writes, WriteAllows}

-- what a contract is asked, of a call that was lent these bytes
record Asked (before : List ℕ) (allows : Allowing) : Type 0 where
  settles : Settles allows
  answers : Answers allows
  unaltered : RefusalAltersNothing allows before

module _ (before : List ℕ) where
  -- what is given by equations
  exactly : (answer : Answer) (bytes : List ℕ) → ((answer.number ≡ 0 → ⊥) → bytes ≡ before) → Asked before (Exactly answer bytes)
  exactly answer bytes same = record {
    settles = λ r r' after after' p q. (p.0 ∙ sym q.0, p.1 ∙ sym q.1);
    answers = record { answer = answer; bytes = bytes; allowed = (refl, refl) };
    unaltered = λ r after p h. p.1 ∙ same (λ e. h (ap (λ (a : Answer). a.number) p.0 ∙ e));
  }

  by_test : (b : Bool) {one other : Allowing} → Asked before one → Asked before other → Asked before (pick b one other)
  by_test true a b = a
  by_test false a b = b

  writes : (said : Said Roster) (file : List ℕ) → Asked before (Writes said file before)
  writes (refused number place) file = exactly (refusal number place) before (λ _. refl)
  writes (says roster) file =
      by_test (leb (length file) (length before))
      (exactly (done (length file) 0) (file ++ drop (length file) before) (λ h. absurd (h refl)))
      (exactly (refusal 13 (length file)) before (λ _. refl))

module _ (situation : ℕ) (variables actions conditions crews tasks : List ℕ) (before : List ℕ) where
  asked : Asked before (WriteAllows situation variables actions conditions crews tasks before)
  asked =
      let file = file_of (lent situation variables actions conditions crews tasks) in
      writes before (reading file) file

  pub write_settles : Settles (WriteAllows situation variables actions conditions crews tasks before)
  write_settles = asked.settles

  pub write_answers : Answers (WriteAllows situation variables actions conditions crews tasks before)
  write_answers = asked.answers

  pub write_unaltered : RefusalAltersNothing (WriteAllows situation variables actions conditions crews tasks before) before
  write_unaltered = asked.unaltered
