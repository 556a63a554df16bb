-- What a call that writes a file may answer: what the reader says of the bytes decides.
-- Assumes nothing.
use Rattle.std.specs.Prelude.{ℕ, List, ◌++◌, leb, length, drop}
use Rattle.plain.specs.Choose.{pick}
use Rattle.answer.specs.Answers.{done, refusal}
use Rattle.answer.specs.Allowing.{Allowing, Exactly}
use Rattle.study.specs.Study.{Roster}
use Rattle.study.specs.Reading.{Said, says, refused, reading}
use Rattle.spelling.specs.Lists.{file_of}
use Rattle.spelling.specs.Lent.{lent}

-- 0 with the length written, or 13 with the length needed
abbrev pub WritesFile : List ℕ → List ℕ → Allowing
WritesFile file before =
    pick (leb (length file) (length before))
    (Exactly (done (length file) 0) (file ++ drop (length file) before))
    (Exactly (refusal 13 (length file)) before)

-- refused as the reader refuses, or written
abbrev pub Writes : Said Roster → List ℕ → List ℕ → Allowing
Writes (refused number place) file before = Exactly (refusal number place) before
Writes (says roster) file before = WritesFile file before

abbrev pub WriteAllows : ℕ → (variables actions conditions crews tasks : List ℕ) → List ℕ → Allowing
WriteAllows situation variables actions conditions crews tasks before =
    Writes (reading (file_of (lent situation variables actions conditions crews tasks))) (file_of (lent situation variables actions conditions crews tasks)) before
