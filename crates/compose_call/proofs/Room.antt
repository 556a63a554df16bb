-- In room for the longest file nothing is refused for want of room: the answer is 0, one of 3 to 7, or 21.
-- Assumes nothing.
use mathlib.Core.Path.{◌≡◌, refl, ap}
use mathlib.Core.Logic.{◌⊎◌, inl, inr, ◌≢◌}
use mathlib.Core.Bool.{Bool, true, false}
use mathlib.Core.List.{List, ◌++◌}
use Prim.Native.Nat.{ℕ, ◌≤◌}
use native.Mathlib.Omega.{arith}
use lib.Dec.{leb}
use lib.ListN.{length, drop}
use borrow.Author.Tests.{leb-false}
use Rattle.plain.specs.Choose.{pick}
use Rattle.answer.specs.declared.Answer.{Answer}
use Rattle.answer.specs.Answers.{done, refusal}
use Rattle.answer.specs.Allowing.{Exactly}
use Rattle.study.specs.Study.{Roster}
use Rattle.study.specs.Reading.{Said, says, refused, reading}
use Rattle.lawful.specs.Lengths.{longest_file}
use Rattle.lawful.proofs.Lengths.{loads_short}
use Rattle.spelling.specs.Lists.{Lists, file_of}
use Rattle.spelling.specs.Lent.{lent}
use Rattle.spelling.specs.Write.{Writes, WriteAllows}
use Rattle.spelling.proofs.NeverCut.{written_never_1_2_8}

roomy :
    (file before : List ℕ) (r : Answer) (after : List ℕ) (b : Bool) → leb (length file) (length before) ≡ b → length file ≤ length before
    → pick b (Exactly (done (length file) 0) (file ++ drop (length file) before)) (Exactly (refusal 13 (length file)) before) r after
    → r.number ≡ 0
roomy file before r after true test room w = ap (λ (x : Answer). x.number) w.0
roomy file before r after false test room w = absurd (omega (arith, leb-false (length file) (length before) test))

fault_not_13 : {number : ℕ} → ((3 ≤ number) × (number ≤ 7)) ⊎ (number ≡ 21) → number ≢ 13
fault_not_13 (inl h) e = omega arith
fault_not_13 (inr h) e = omega arith

roomy_said :
    (l : Lists) (before : List ℕ) (said : Said Roster) → reading (file_of l) ≡ said → longest_file ≤ length before → (r : Answer) (after : List ℕ)
    → Writes said (file_of l) before r after → r.number ≢ 13
roomy_said l before (refused number place) e room r after w thirteen =
    fault_not_13 (written_never_1_2_8 l number place e) (omega (arith, ap (λ (x : Answer). x.number) w.0))
roomy_said l before (says roster) e room r after w thirteen =
    omega (arith, roomy (file_of l) before r after _ refl (omega (arith, loads_short (file_of l) roster e)) w)

pub never_13 :
    (situation : ℕ) (variables actions conditions crews tasks before : List ℕ) → longest_file ≤ length before → (r : Answer) (after : List ℕ)
    → WriteAllows situation variables actions conditions crews tasks before r after → r.number ≢ 13
never_13 situation variables actions conditions crews tasks before room r after w thirteen =
    let l = lent situation variables actions conditions crews tasks in
    roomy_said l before (reading (file_of l)) refl room r after w thirteen
