-- A reader that goes on from where a record ended finds what follows it: a record that is not there is not there again.
-- Assumes nothing.
use mathlib.Core.Path.{◌≡◌}
use mathlib.Core.List.{List}
use Prim.Native.Nat.{ℕ, ◌+◌, ◌≤◌, ◌<◌}
use native.Mathlib.Omega.{arith}
use native.Mathlib.Decide.{dec_le, dec_lt}
use lib.ListN.{length, get_or}
use Rattle.records.specs.Records.{record_at_lem, next_of, body_length_lem}
use Rattle.records.proofs.Laws.{record_ended, record_unknown_low, record_unknown_high, record_there, record_cut}
use Rattle.reader.specs.Reading.{record_after_lem}

pub reads_on : (file : List ℕ) (at : ℕ) → record_at_lem file (next_of (record_at_lem file at)) ≡ record_after_lem file at
reads_on file at = in_file (dec_lt at (length file))
  where
    k : ℕ
    k = get_or file at 0

    Goal : Type 0
    Goal = record_at_lem file (next_of (record_at_lem file at)) ≡ record_after_lem file at

    whole : at < length file → 1 ≤ k → k ≤ 9 → Dec (at + 1 + body_length_lem k ≤ length file) → Goal
    whole i l h (yes w) = rw (record_there file at i l h w)
    whole i l h (no w) = let e = record_cut file at i l h (omega arith) in rw e e

    high : at < length file → 1 ≤ k → Dec (k ≤ 9) → Goal
    high i l (yes h) = whole i l h (dec_le (at + 1 + body_length_lem k) (length file))
    high i l (no h) = let e = record_unknown_high file at i l (omega arith) in rw e e

    low : at < length file → Dec (1 ≤ k) → Goal
    low i (yes l) = high i l (dec_le k 9)
    low i (no l) = let e = record_unknown_low file at i (omega arith) in rw e e

    in_file : Dec (at < length file) → Goal
    in_file (yes i) = low i (dec_le 1 k)
    in_file (no i) = rw (record_ended file at (omega arith)) (record_ended file (length file) (omega arith))
