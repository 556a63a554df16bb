-- Words that the demands' theorems share: a file that loads, what it says to a crew, a rank list for it, and room.
-- Assumes nothing.
use Rattle.std.specs.Prelude.{◌≡◌, List, ◌++◌, ℕ, ◌≤◌, length, drop}
use Rattle.answer.specs.Answers.{done}
use Rattle.answer.specs.Allowing.{AllowsOnly}
use Rattle.ranks.specs.Ranks.{RankList}
use Rattle.study.specs.Study.{Study, Roster}
use Rattle.study.specs.Reading.{says, reading, reading_for}
use Rattle.plans.specs.Plans.{StraightPlan}
use Rattle.planning.specs.Planning.{PlanAllows}

-- the file loads: it says this roster
abbrev pub LoadsAs : List ℕ → Roster → Type 0
LoadsAs file r = reading file ≡ says r

-- the file loads and has the crew, to which it says this study
abbrev pub LoadsFor : List ℕ → ℕ → Study → Type 0
LoadsFor file crew t = reading_for file crew ≡ says t

-- one entry for each action of the study, and each of 0 to A - 1 once
abbrev pub RanksFor : Study → List ℕ → Type 0
RanksFor t ranks = RankList (length t.actions) ranks

-- the buffer is as long as any straight plan; straight plans are equally long
abbrev pub RoomFor : Study → List ℕ → Type 0
RoomFor t before = (list : List ℕ) → StraightPlan t list → length list ≤ length before

abbrev pub NoStraightPlan : Study → Type 0
NoStraightPlan t = (list : List ℕ) → StraightPlan t list → ⊥

-- with these ranks the file is planned for the crew with this list, and no other, into every buffer that has room for it
abbrev pub Returned : List ℕ → ℕ → List ℕ → List ℕ → Type 0
Returned file crew ranks list =
    (before : List ℕ) → length list ≤ length before
    → AllowsOnly (PlanAllows file crew ranks before) (done (length list) 0) (list ++ drop (length list) before)
