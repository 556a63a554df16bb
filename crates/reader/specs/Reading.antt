-- A reader of a file at a place, and the record that follows the one at a place.
-- Assumes nothing.
use Rattle.std.specs.Prelude.{ℕ, List}
use Rattle.std.specs.Borrow.{Bor}
use Rattle.records.specs.Records.{record_at_lem}
use Rattle.records.specs.declared.Found.{Found}
use Rattle.records.specs.declared.Found.TheVariants.{There, Unknown, Cut, Ended}
use Rattle.reader.specs.declared.Reader.{Reader}

abbrev pub reader_at : Bor (List ℕ) → ℕ → Reader
reader_at file at = record { file = file; at = at }

-- what a reader finds that goes on behind a record; a record that is not there ends the reading, with its own refusal
abbrev pub behind : List ℕ → Found → Found
behind file (There kind start next) = record_at_lem file next
behind file (Unknown place) = Unknown place
behind file (Cut kind place) = Cut kind place
behind file (Ended place) = Ended place

abbrev pub record_after_lem : List ℕ → ℕ → Found
record_after_lem file at = behind file (record_at_lem file at)
