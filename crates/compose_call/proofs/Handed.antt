-- The lists that the program hands to the writer are those that its input stands for, and a file that was written lies within the buffer.
-- Assumes nothing.
use mathlib.Core.Path.{◌≡◌, refl, ap}
use mathlib.Core.Bool.{Bool, true, false}
use mathlib.Core.List.{List, ◌++◌}
use Prim.Native.Nat.{ℕ, ◌≤◌}
use native.Mathlib.Omega.{arith}
use lib.Dec.{leb}
use lib.ListN.{length, drop}
use borrow.Author.Tests.{leb-true}
use Rattle.plain.specs.Choose.{pick}
use Rattle.answer.specs.declared.Answer.{Answer}
use Rattle.answer.specs.Answers.{done, refusal}
use Rattle.answer.specs.Allowing.{Exactly}
use Rattle.study.specs.Study.{Roster}
use Rattle.study.specs.Reading.{Said, says, refused, reading}
use Rattle.study.proofs.Refusals.{numbered_some, refusals_numbered}
use Rattle.spelling.specs.Lists.{file_of}
use Rattle.spelling.specs.Lent.{lent}
use Rattle.spelling.specs.Write.{Writes, WriteAllows}
use Rattle.compose_call.specs.Input.{situation_in, actions_at, conditions_at, crews_at, tasks_at, end_at, between, variables_in, actions_in, conditions_in, crews_in, tasks_in}

pub handed :
    (input before after : List ℕ) (r : Answer) (a b c d e : ℕ)
    → a ≡ actions_at input → b ≡ conditions_at input → c ≡ crews_at input → d ≡ tasks_at input → e ≡ end_at input
    → WriteAllows (situation_in input) (between 11 a input) (between a b input) (between b c input) (between c d input) (between d e input) before r after
    → WriteAllows (situation_in input) (variables_in input) (actions_in input) (conditions_in input) (crews_in input) (tasks_in input) before r after
handed input before after r a b c d e ea eb ec ed ee w = rw (ea, eb, ec, ed, ee) at w

-- ---- what answer 0 says

fits :
    (file before : List ℕ) (r : Answer) (after : List ℕ) (b : Bool) → leb (length file) (length before) ≡ b → r.number ≡ 0
    → pick b (Exactly (done (length file) 0) (file ++ drop (length file) before)) (Exactly (refusal 13 (length file)) before) r after
    → r.first ≤ length before
fits file before r after true test zero w = omega (arith, ap (λ (x : Answer). x.first) w.0, leb-true (length file) (length before) test)
fits file before r after false test zero w = absurd (omega (arith, ap (λ (x : Answer). x.number) w.0))

fits_said :
    (file before : List ℕ) (said : Said Roster) → reading file ≡ said → (r : Answer) (after : List ℕ) → r.number ≡ 0
    → Writes said file before r after → r.first ≤ length before
fits_said file before (refused number place) e r after zero w =
    absurd (omega (arith, ap (λ (x : Answer). x.number) w.0, numbered_some (rw e at (refusals_numbered file))))
fits_said file before (says roster) e r after zero w = fits file before r after (leb (length file) (length before)) refl zero w

pub written_fits :
    (situation : ℕ) (variables actions conditions crews tasks before : List ℕ) (r : Answer) (after : List ℕ) → r.number ≡ 0
    → WriteAllows situation variables actions conditions crews tasks before r after → r.first ≤ length before
written_fits situation variables actions conditions crews tasks before r after zero w =
    let file = file_of (lent situation variables actions conditions crews tasks) in
    fits_said file before (reading file) refl r after zero w
