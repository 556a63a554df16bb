-- Document 01's numbers for each case of what reading one record finds.
-- Assumes nothing.
use Rattle.std.specs.Prelude.{◌≡◌, List, ℕ, ◌-◌}
use Rattle.records.specs.Records.{record_at_lem, number_of, kind_of, start_of, next_of}
use Rattle.records.specs.declared.Found.{Found}
use Rattle.marrowkite.specs.declared.Record.{Record}

-- number, kind, where the body starts, its length, and the place after it
abbrev pub told : Found → Record
told f = record { number = number_of f; kind = kind_of f; start = start_of f; len = next_of f - start_of f; next = next_of f }

-- what reading the record at a place may answer; it is lent no bytes to write
abbrev pub RecordAllows : List ℕ → ℕ → Record → Type 0
RecordAllows file at r = r ≡ told (record_at_lem file at)
