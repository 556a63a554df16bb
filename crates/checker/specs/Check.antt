-- What checking a file answers: the refusal 1 to 8 with its place or 21 with its variable, or 0 with the numbers of actions and of variables.
-- Assumes nothing.
use Rattle.std.specs.Prelude.{◌≡◌, List, ℕ, length}
use Rattle.answer.specs.Answers.{done, refusal}
use Rattle.answer.specs.declared.Answer.{Answer}
use Rattle.study.specs.Study.{Roster}
use Rattle.study.specs.Reading.{Said, says, refused, reading}

abbrev pub check_answer : Said Roster → Answer
check_answer (says r) = done (length r.actions) (length r.counts)
check_answer (refused number place) = refusal number place

-- what checking a file may answer; it is lent no bytes to write
abbrev pub CheckAllows : List ℕ → Answer → Type 0
CheckAllows file r = r ≡ check_answer (reading file)
