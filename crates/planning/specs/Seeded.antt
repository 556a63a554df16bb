-- What planning with the crew's own seed answers: what planning answers with the list that the seed draws.
-- Assumes nothing.
use Rattle.std.specs.Prelude.{List, [], ℕ, length}
use Rattle.answer.specs.Allowing.{Allowing}
use Rattle.draw.specs.Draw.{drawn}
use Rattle.study.specs.Study.{Study}
use Rattle.study.specs.Reading.{Said, says, refused, reading_for}
use Rattle.planning.specs.Planning.{PlansFile}

-- the rank list that a study's own seed draws
abbrev pub own_ranks : Study → List ℕ
own_ranks t = drawn t.seed (length t.actions)

-- .. and that of what a file says to a crew; where it is refused there is no seed
abbrev pub seed_ranks : Said Study → List ℕ
seed_ranks (says t) = own_ranks t
seed_ranks (refused number place) = []

-- the same as planning, with the drawn list
abbrev pub PlansSeeded : Said Study → List ℕ → Allowing
PlansSeeded said = PlansFile said (seed_ranks said)

abbrev pub SeededAllows : List ℕ → ℕ → List ℕ → Allowing
SeededAllows file crew = PlansSeeded (reading_for file crew)
