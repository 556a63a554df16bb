-- What the contract of writing allows, once the file is known to load or to be refused.
-- Assumes nothing.
use mathlib.Core.Path.{◌≡◌, refl}
use mathlib.Core.List.{List, ◌++◌}
use Prim.Native.Nat.{ℕ, ◌≤◌, ◌<◌}
use native.Mathlib.Omega.{arith}
use lib.ListN.{length, drop}
use borrow.Author.Tests.{le-leb, lt-leb}
use Rattle.answer.specs.declared.Answer.{Answer}
use Rattle.answer.specs.Answers.{refusal}
use Rattle.study.specs.Study.{Roster}
use Rattle.study.specs.Reading.{says, refused, reading}
use Rattle.spelling.specs.Write.{Writes}

module _ (file before : List ℕ) {r : Answer} where
  pub refused_so : (number place : ℕ) → reading file ≡ refused number place → r ≡ refusal number place → Writes (reading file) file before r before
  refused_so number place e answered = rw e (answered, refl)

  module _ (loads : (r : Roster) × (reading file ≡ says r)) (n : ℕ) (long : n ≡ length file) where
    pub too_short : length before < n → r ≡ refusal 13 n → Writes (reading file) file before r before
    too_short h answered = rw (loads.1, lt-leb (length file) (length before) (omega arith), ← long) (answered, refl)

    pub written : {after : List ℕ} → n ≤ length before → r ≡ refusal 0 n → after ≡ file ++ drop (length file) before → Writes (reading file) file before r after
    written h answered bytes = rw (loads.1, le-leb (length file) (length before) (omega arith), ← long) (answered, rw long bytes)
