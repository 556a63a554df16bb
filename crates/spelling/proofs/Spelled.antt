-- Where a record is spelled, the reader finds it: that record, whole, and behind it what follows.
-- Assumes nothing.
use mathlib.Core.Path.{◌≡◌, refl, sym, ap, ◌∙◌}
use mathlib.Core.List.{List, ◌++◌}
use Prim.Native.Nat.{ℕ, ◌+◌, ◌*◌, ◌/◌, ◌%◌, ◌≤◌}
use native.Mathlib.Omega.{arith}
use lib.ListN.{length, get_or, drop, length-append, length-drop}
use lib.Seq.{get_or-drop, drop-drop, drop_at}
use borrow.Author.Tests.{le-leb}
use Rattle.plain.specs.Choose.{pick}
use Rattle.records.specs.Records.{body_length_lem, body_lengths, bodied, record_at_lem}
use Rattle.records.specs.declared.Found.TheVariants.{There}
use Rattle.records.proofs.Laws.{record_of_kind}
use Rattle.study.specs.Reading.{Record, variable, action, condition, task, seed, end, times, present, crew, decoded, record_from, refused}
use Rattle.study.specs.Reading.{Draft, allowed, fault_in, settled, taken, unless, judged, verdict_at}
use Rattle.study.proofs.Verdicts.{verdict_by}
use Rattle.lawful.specs.Lengths.{bytes_of}
use Rattle.spelling.specs.Spelling.{kind_of, spelled_record}

pub spelled-length : (r : Record) → length (spelled_record r) ≡ bytes_of r
unfolding spelled_record
spelled-length (variable n) = refl
spelled-length (action v p q) = refl
spelled-length (condition v q) = refl
spelled-length (task v p q) = refl
spelled-length (seed n) = refl
spelled-length end = refl
spelled-length (times n) = refl
spelled-length (present n) = refl
spelled-length crew = refl

-- its kind comes first
spelled_kind : (r : Record) (rest : List ℕ) → get_or (spelled_record r ++ rest) 0 0 ≡ kind_of r
unfolding spelled_record
spelled_kind (variable n) rest = refl
spelled_kind (action v p q) rest = refl
spelled_kind (condition v q) rest = refl
spelled_kind (task v p q) rest = refl
spelled_kind (seed n) rest = refl
spelled_kind end rest = refl
spelled_kind (times n) rest = refl
spelled_kind (present n) rest = refl
spelled_kind crew rest = refl

record Kind (r : Record) : Type 0 where
  low : 1 ≤ kind_of r
  high : kind_of r ≤ 9
  bytes : 1 + body_length_lem (kind_of r) ≡ bytes_of r

kind_of_lem : (r : Record) → Kind r
unfolding body_length_lem body_lengths
kind_of_lem (variable n) = record { low = omega arith; high = omega arith; bytes = refl }
kind_of_lem (action v p q) = record { low = omega arith; high = omega arith; bytes = refl }
kind_of_lem (condition v q) = record { low = omega arith; high = omega arith; bytes = refl }
kind_of_lem (task v p q) = record { low = omega arith; high = omega arith; bytes = refl }
kind_of_lem (seed n) = record { low = omega arith; high = omega arith; bytes = refl }
kind_of_lem end = record { low = omega arith; high = omega arith; bytes = refl }
kind_of_lem (times n) = record { low = omega arith; high = omega arith; bytes = refl }
kind_of_lem (present n) = record { low = omega arith; high = omega arith; bytes = refl }
kind_of_lem crew = record { low = omega arith; high = omega arith; bytes = refl }

pub some_bytes : (r : Record) → 1 ≤ bytes_of r
some_bytes r = omega (arith, (kind_of_lem r).bytes)

-- four bytes, most significant first, say their number
four_bytes : (n : ℕ) → ((n / 16777216 * 256 + n / 65536 % 256) * 256 + n / 256 % 256) * 256 + n % 256 ≡ n
four_bytes n = omega arith

-- its body says it
spelled-decoded :
    (r : Record) (rest : List ℕ)
    → decoded (kind_of r) (get_or (spelled_record r ++ rest) 1 0) (get_or (spelled_record r ++ rest) 2 0) (get_or (spelled_record r ++ rest) 3 0) (get_or (spelled_record r ++ rest) 4 0) ≡ r
unfolding spelled_record decoded
spelled-decoded (variable n) rest = refl
spelled-decoded (action v p q) rest = refl
spelled-decoded (condition v q) rest = refl
spelled-decoded (task v p q) rest = refl
spelled-decoded (seed n) rest = ap seed (four_bytes n)
spelled-decoded end rest = refl
spelled-decoded (times n) rest = refl
spelled-decoded (present n) rest = refl
spelled-decoded crew rest = refl

module _ (file rest : List ℕ) (at : ℕ) (r : Record) (here : drop at file ≡ spelled_record r ++ rest) where
  pub rest_inside : at + bytes_of r ≤ length file
  rest_inside =
      omega (arith, length-drop at file, ap length here, length-append (spelled_record r) rest, spelled-length r, some_bytes r)

  pub rest_there : drop (at + bytes_of r) file ≡ rest
  rest_there = sym (drop-drop (bytes_of r) at file) ∙ ap (drop (bytes_of r)) here ∙ drop_at (spelled_record r) rest (bytes_of r) (spelled-length r)

  byte : (k place : ℕ) → place ≡ at + k → get_or file place 0 ≡ get_or (spelled_record r ++ rest) k 0
  byte k place e = ap (λ (i : ℕ). get_or file i 0) e ∙ sym (get_or-drop at file k 0) ∙ ap (λ (l : List ℕ). get_or l k 0) here

  pub record_there : record_at_lem file at ≡ There (kind_of r) (at + 1) (at + bytes_of r)
  record_there = rw (found, same, le-leb (at + bytes_of r) (length file) rest_inside)
    where
      found : record_at_lem file at ≡ bodied (length file) at (kind_of r) (body_length_lem (kind_of r))
      found =
          record_of_kind file at (omega (arith, rest_inside, some_bytes r)) (kind_of r)
          (byte 0 at (omega arith) ∙ spelled_kind r rest) (kind_of_lem r).low (kind_of_lem r).high

      same : at + 1 + body_length_lem (kind_of r) ≡ at + bytes_of r
      same = omega (arith, (kind_of_lem r).bytes)

  pub record_is : record_from file (at + 1) (kind_of r) ≡ r
  record_is =
      rw (byte 1 (at + 1) refl, byte 2 (at + 1 + 1) (omega arith), byte 3 (at + 1 + 2) (omega arith), byte 4 (at + 1 + 3) (omega arith)) (spelled-decoded r rest)

  pub spelled_verdict :
      (d : Draft)
      → verdict_at file at d
      ≡ pick (allowed d (kind_of r)) (unless (fault_in d r) at (taken file at d (kind_of r) (at + bytes_of r) r)) (settled (refused 3 at))
  unfolding judged
  spelled_verdict d = verdict_by file at d record_there ∙ rw record_is
