-- What making the journeys of a crew's plan may answer, and the buffer afterwards: the refusal of the plan, or what is told of the rides and the journeys that they make of the plan.
-- Assumes nothing.
use Rattle.std.specs.Prelude.{ℕ, List}
use Rattle.answer.specs.Allowing.{Allowing, Exactly}
use Rattle.answer.specs.declared.Answer.{Answer}
use Rattle.study.specs.Study.{Study}
use Rattle.study.specs.Reading.{Said, reading_for}
use Rattle.rides.specs.Answers.{RidesAllow}
use Rattle.journeys.specs.Planned.{Planned, no_plan, the_plan, SaidPlansTo}

-- by what the plan came to
abbrev pub Travelled : Planned → List ℕ → ℕ → List ℕ → Allowing
Travelled (no_plan r) rides start before = Exactly r before
Travelled (the_plan actions list) rides start before = RidesAllow actions rides start list before

-- the plan is settled first, by file, crew and ranks; rides, start floor and buffer come after it
pub record Travels (said : Said Study) (ranks rides : List ℕ) (start : ℕ) (before : List ℕ) (r : Answer) (after : List ℕ) : Type 0 where
  pub planned : Planned
  pub comes : SaidPlansTo said ranks planned
  pub travelled : Travelled planned rides start before r after

abbrev pub JourneysAllows : List ℕ → ℕ → List ℕ → List ℕ → ℕ → List ℕ → Allowing
JourneysAllows file crew = Travels (reading_for file crew)
