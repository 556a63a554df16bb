-- Writing what was read gives the same bytes, so a roster has one spelling.
-- Assumes nothing.
use mathlib.Core.Path.{◌≡◌, sym, ap, ◌∙◌}
use mathlib.Core.List.{List, [], ◌∷◌, ◌++◌}
use Prim.Native.Nat.{ℕ, zero, suc, ◌+◌, ◌*◌, ◌/◌, ◌%◌, ◌≤◌, ◌<◌}
use native.Mathlib.Nat.{add-zero}
use native.Mathlib.Numerals.{add-one}
use native.Mathlib.Omega.{arith}
use lib.ListN.{length, get_or, drop}
use lib.Seq.{drop-cons}
use Rattle.records.specs.Records.{body_length_lem, body_lengths}
use Rattle.records.proofs.Laws.{Lies, there_lies}
use Rattle.study.specs.Study.{Roster}
use Rattle.study.specs.Reading.{says, seed, decoded, record_from, reading}
use Rattle.spelling.specs.Spelling.{spelled_record}
use Rattle.spelling.specs.Lists.{lists_of, file_of}
use Rattle.spelling.proofs.Rewritten.{SpelledAlong, rewritten}

-- each entry is a byte
abbrev pub Bytes : List ℕ → Type 0
Bytes file = (k : ℕ) → k < length file → get_or file k 0 < 256

-- ---- the bytes from a place on, one to four of them by name

module _ (file : List ℕ) where
  from_1 : (at : ℕ) → at + 1 ≤ length file → drop at file ≡ get_or file at 0 ∷ drop (at + 1) file
  from_1 at h = rw (add-one at) (drop-cons file at 0 (omega arith))

  from_2 : (at : ℕ) → at + 2 ≤ length file → drop at file ≡ get_or file at 0 ∷ get_or file (at + 1) 0 ∷ drop (at + 2) file
  from_2 at h = let e : at + 1 + 1 ≡ at + 2 = omega arith in from_1 at (omega arith) ∙ rw (from_1 (at + 1) (omega arith), e)

  from_3 : (at : ℕ) → at + 3 ≤ length file → drop at file ≡ get_or file at 0 ∷ get_or file (at + 1) 0 ∷ get_or file (at + 2) 0 ∷ drop (at + 3) file
  from_3 at h = let e : at + 2 + 1 ≡ at + 3 = omega arith in from_2 at (omega arith) ∙ rw (from_1 (at + 2) (omega arith), e)

  from_4 :
      (at : ℕ) → at + 4 ≤ length file
      → drop at file ≡ get_or file at 0 ∷ get_or file (at + 1) 0 ∷ get_or file (at + 2) 0 ∷ get_or file (at + 3) 0 ∷ drop (at + 4) file
  from_4 at h = let e : at + 3 + 1 ≡ at + 4 = omega arith in from_3 at (omega arith) ∙ rw (from_1 (at + 3) (omega arith), e)

-- a number of four bytes is spelled by them
pub seed_spelled :
    (a b c d : ℕ) → b < 256 → c < 256 → d < 256
    → spelled_record (seed (((a * 256 + b) * 256 + c) * 256 + d)) ≡ 5 ∷ a ∷ b ∷ c ∷ d ∷ []
unfolding spelled_record
seed_spelled a b c d hb hc hd =
    let n = ((a * 256 + b) * 256 + c) * 256 + d in
    let e0 : n / 16777216 ≡ a = omega arith in
    let e1 : n / 65536 % 256 ≡ b = omega arith in
    let e2 : n / 256 % 256 ≡ c = omega arith in
    let e3 : n % 256 ≡ d = omega arith in
    rw (e0, e1, e2, e3)

module _ (file : List ℕ) (bytes : Bytes file) where
  -- a record that is found is spelled there
  found_spelled :
      (at kind : ℕ) → get_or file at 0 ≡ kind → 1 ≤ kind → kind ≤ 9 → at + 1 + body_length_lem kind ≤ length file
      → drop at file ≡ spelled_record (record_from file (at + 1) kind) ++ drop (at + 1 + body_length_lem kind) file
  unfolding body_length_lem body_lengths decoded spelled_record
  found_spelled at zero e low high whole = absurd (omega arith)
  found_spelled at (suc zero) e low high whole = rw (from_1 file at (omega arith), e, from_1 file (at + 1) whole)
  found_spelled at (suc (suc zero)) e low high whole = rw (from_1 file at (omega arith), e, from_3 file (at + 1) whole)
  found_spelled at (suc (suc (suc zero))) e low high whole = rw (from_1 file at (omega arith), e, from_2 file (at + 1) whole)
  found_spelled at (suc (suc (suc (suc zero)))) e low high whole = rw (from_1 file at (omega arith), e, from_3 file (at + 1) whole)
  found_spelled at (suc (suc (suc (suc (suc zero))))) e low high whole =
      rw (from_1 file at (omega arith), e, from_4 file (at + 1) whole)
      (ap (λ (l : List ℕ). l ++ drop (at + 1 + 4) file)
      (sym
      (seed_spelled (get_or file (at + 1) 0) (get_or file (at + 1 + 1) 0) (get_or file (at + 1 + 2) 0) (get_or file (at + 1 + 3) 0)
      (bytes _ (omega arith)) (bytes _ (omega arith)) (bytes _ (omega arith)))))
  found_spelled at (suc (suc (suc (suc (suc (suc zero)))))) e low high whole = rw (from_1 file at (omega arith), e, add-zero (at + 1))
  found_spelled at (suc (suc (suc (suc (suc (suc (suc zero))))))) e low high whole = rw (from_1 file at (omega arith), e, from_1 file (at + 1) whole)
  found_spelled at (suc (suc (suc (suc (suc (suc (suc (suc zero)))))))) e low high whole = rw (from_1 file at (omega arith), e, from_1 file (at + 1) whole)
  found_spelled at (suc (suc (suc (suc (suc (suc (suc (suc (suc zero))))))))) e low high whole = rw (from_1 file at (omega arith), e, add-zero (at + 1))
  found_spelled at (suc (suc (suc (suc (suc (suc (suc (suc (suc (suc kind)))))))))) e low high whole = absurd (omega arith)

  spelled_along : SpelledAlong file (λ at. Unit {0})
  spelled_along at on kind start next there = (here, tt)
    where
      lies : Lies file at kind start next
      lies = there_lies file at there

      here : drop at file ≡ spelled_record (record_from file start kind) ++ drop next file
      here = rw (lies.starts, lies.goes_on) (found_spelled at kind (sym lies.is_kind) lies.low lies.high (omega (arith, lies.goes_on, lies.whole)))

  -- writing what was read gives the same bytes
  pub one_spelling : (r : Roster) → reading file ≡ says r → file_of (lists_of r) ≡ file
  one_spelling = rewritten file (λ at. Unit {0}) spelled_along tt

-- two files of bytes that load as the same roster are the same file
pub same_study_same_file :
    (file other : List ℕ) → Bytes file → Bytes other
    → (r : Roster) → reading file ≡ says r → reading other ≡ says r → file ≡ other
same_study_same_file file other bytes bytes' r e e' = sym (one_spelling file bytes r e) ∙ one_spelling other bytes' r e'
