-- What is answered of rides once there is a plan: the first fault, or 13 with the bytes needed, or 0 with the number of journeys.
-- Assumes nothing.
use Rattle.std.specs.Prelude.{ℕ, List, ◌++◌, leb, length, drop}
use Rattle.std.proofs.Math.Option.{Option, none, some}
use Rattle.plain.specs.Choose.{pick}
use Rattle.answer.specs.Answers.{done, refusal}
use Rattle.answer.specs.Allowing.{Allowing, Exactly}
use Rattle.answer.specs.declared.Answer.{Answer}
use Rattle.rides.specs.Rides.{rides_of, fault_of}
use Rattle.rides.specs.Journeys.{Journey, journeys_of, bytes_of}

-- 0 with the journeys in front and later bytes as they were; or 13
abbrev pub Laid : List Journey → List ℕ → Allowing
Laid journeys before =
    pick (leb (length (bytes_of journeys)) (length before))
    (Exactly (done (length journeys) 0) (bytes_of journeys ++ drop (length (bytes_of journeys)) before))
    (Exactly (refusal 13 (length (bytes_of journeys))) before)

abbrev pub UnlessFault : Option Answer → List Journey → List ℕ → Allowing
UnlessFault none journeys before = Laid journeys before
UnlessFault (some r) journeys before = Exactly r before

-- for a plan of so many actions' file, a list of rides and a start floor
abbrev pub RidesAllow : ℕ → List ℕ → ℕ → List ℕ → List ℕ → Allowing
RidesAllow actions rides start plan before = UnlessFault (fault_of actions rides start) (journeys_of (rides_of rides) start plan) before
