-- What is so of all that a file may say, where it is so of each verdict: with what is so of the drafts between the records, and of the places where they stand.
-- Assumes nothing.
use mathlib.Core.List.{List}
use Prim.Native.Nat.{ℕ, zero, suc, ◌+◌}
use lib.ListN.{length}
use Rattle.study.specs.Study.{Roster}
use Rattle.study.specs.Reading.{Said, refused, Draft, blank, Verdict, settled, onward, verdict_at, follow, read_on, reading}

module _ (P : Said Roster → Type 0) (Between : ℕ → Draft → Type 0) where
  abbrev pub VerdictHas : Verdict → Type 0
  VerdictHas (settled s) = P s
  VerdictHas (onward at d) = Between at d

  follow_has : (v : Verdict) (read : ℕ → Draft → Said Roster) → VerdictHas v → ((at : ℕ) (d : Draft) → Between at d → P (read at d)) → P (follow v read)
  follow_has (settled s) read h f = h
  follow_has (onward at d) read h f = f at d h

  module _ (file : List ℕ) (cut : P (refused 1 (length file))) (each : (at : ℕ) (d : Draft) → Between at d → VerdictHas (verdict_at file at d)) where
    read_on_has : (n at : ℕ) (d : Draft) → Between at d → P (read_on n file at d)
    unfolding read_on
    read_on_has zero at d h = cut
    read_on_has (suc n) at d h = follow_has (verdict_at file at d) (read_on n file) (each at d h) (read_on_has n)

    pub reading_has : Between 0 blank → P (reading file)
    unfolding reading
    reading_has = read_on_has (length file + 1) 0 blank

-- two things that are so of a verdict
pub verdict_has_both :
    (P Q : Said Roster → Type 0) (A B : ℕ → Draft → Type 0) (v : Verdict) → VerdictHas P A v → VerdictHas Q B v
    → VerdictHas (λ s. P s × Q s) (λ at d. A at d × B at d) v
verdict_has_both P Q A B (settled s) p q = (p, q)
verdict_has_both P Q A B (onward at d) a b = (a, b)
