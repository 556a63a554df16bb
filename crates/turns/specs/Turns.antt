-- How many turns a file has: one for each crew, and one for the refusal where it does not load.
-- Assumes nothing.
use Rattle.std.specs.Prelude.{ℕ, length}
use Rattle.study.specs.Study.{Roster}
use Rattle.study.specs.Reading.{Said, says, refused}

abbrev pub turns_in : Said Roster → ℕ
turns_in (says r) = length r.crews
turns_in (refused number place) = 1
