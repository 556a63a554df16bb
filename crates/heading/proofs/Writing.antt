-- Five figures stored, the two answers to a report, and the report on seeds that are all refused.
-- Assumes nothing.
use mathlib.Core.Path.{◌≡◌, refl}
use mathlib.Core.List.{List, [], ◌∷◌, ◌++◌}
use Prim.Native.Nat.{ℕ, ◌≤◌, ◌<◌}
use native.Mathlib.Omega.{arith}
use lib.Dec.{eqb}
use lib.ListN.{length, drop, set, length-replicate, replicate}
use borrow.Author.Tests.{le-leb, lt-leb}
use Rattle.plain.specs.Choose.{pick}
use Rattle.answer.specs.Answers.{done, refusal}
use Rattle.answer.specs.declared.Answer.{Answer}
use Rattle.study.specs.Study.{Study}
use Rattle.lawful.specs.Lawful.{Lawful}
use Rattle.varied.specs.Outcomes.{barred, ComesTo}
use Rattle.varied.specs.Report.{WritesReport, Reports}
use Rattle.varied.proofs.Alike.{barred_comes}
use Rattle.varied.proofs.Told.{barred_report}

-- five stored
pub five_stored :
    (a b c d e : ℕ) (l : List ℕ) → 5 ≤ length l → set (set (set (set (set l 0 a) 1 b) 2 c) 3 d) 4 e ≡ a ∷ b ∷ c ∷ d ∷ e ∷ drop 5 l
five_stored a b c d e [] h = absurd (omega arith)
five_stored a b c d e (x0 ∷ []) h = absurd (omega arith)
five_stored a b c d e (x0 ∷ x1 ∷ []) h = absurd (omega arith)
five_stored a b c d e (x0 ∷ x1 ∷ x2 ∷ []) h = absurd (omega arith)
five_stored a b c d e (x0 ∷ x1 ∷ x2 ∷ x3 ∷ []) h = absurd (omega arith)
five_stored a b c d e (x0 ∷ x1 ∷ x2 ∷ x3 ∷ x4 ∷ rest) h = refl

-- ---- the two answers

module _ (report before : List ℕ) {r : Answer} {after : List ℕ} where
  pub writes_all : length report ≤ length before → r ≡ done (length report) 0 → after ≡ report ++ drop (length report) before → WritesReport report before r after
  writes_all room answered written = rw (le-leb (length report) (length before) room) (answered, written)

  pub writes_none : length before < length report → r ≡ refusal 13 (length report) → after ≡ before → WritesReport report before r after
  writes_none short answered same = rw (lt-leb (length report) (length before) short) (answered, same)

-- ---- all are refused

abbrev pub refused_report : ℕ → ℕ → List ℕ
refused_report number n = 0 ∷ pick (eqb number 10) n 0 ∷ pick (eqb number 11) n 0 ∷ pick (eqb number 12) n 0 ∷ 0 ∷ []

pub barred_reports :
    {t : Study} {first n : ℕ} {a : Answer} {before after : List ℕ} {r : Answer} → Lawful t → ComesTo t first (barred a)
    → WritesReport (refused_report a.number n) before r after → Reports t first n before r after
barred_reports {t} {first} {n} {a} lawful comes written = record {
  outcomes = replicate n (barred a);
  each = length-replicate n (barred a);
  come = barred_comes lawful comes first n;
  written = rw (barred_report (length t.actions) n a) written;
}
