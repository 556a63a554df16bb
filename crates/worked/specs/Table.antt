-- Document 01's worked cases that are marked *, 9 and 14 as document 02 has them, as one table: each row is a call with what it is lent, the three numbers and the lent bytes afterwards. The files have one crew, 0.
-- Assumes nothing.
use Rattle.std.specs.Prelude.{ℕ, ◌≡◌, ◌⊎◌, ◌↔◌, List, [], ◌∷◌, ◌++◌, get_or, set}
use Rattle.answer.specs.Answers.{three, done, refusal}
use Rattle.answer.specs.Allowing.{Allowing, AllowsOnly}
use Rattle.answer.specs.declared.Answer.{Answer}
use Rattle.draw.specs.Draw.{DrawAllows}
use Rattle.study.specs.Study.{Study}
use Rattle.study.specs.Reading.{Said, says, refused, reading_for}
use Rattle.plans.specs.Plans.{StraightPlan}
use Rattle.runs.specs.Run.{RunAllows}
use Rattle.planning.specs.Planning.{PlanAllows}

-- ---- what a row says

pub data Call : Type 0 where
  -- a seed and a count
  draw : ℕ → ℕ → Call
  -- a file and ranks, for crew 0
  plan : List ℕ → List ℕ → Call
  -- a file and a list to run, for crew 0
  run : List ℕ → List ℕ → Call

-- what the call's contract allows: the lent bytes before, the answer, and the bytes afterwards
abbrev pub Allows : Call → List ℕ → Allowing
Allows (draw seed count) before = DrawAllows seed count before
Allows (plan file ranks) before = PlanAllows file 0 ranks before
Allows (run file list) before = RunAllows file 0 list before

-- the straight plans of what a file says to a crew; where it is refused there is none
abbrev pub StraightIn : Said Study → List ℕ → Type 0
StraightIn (says t) list = StraightPlan t list
StraightIn (refused number place) list = ⊥

abbrev pub OneOf : List ℕ → List (List ℕ) → Type 0
OneOf list [] = ⊥
OneOf list (l ∷ rest) = (list ≡ l) ⊎ OneOf list rest

pub data Row : Type 0 where
  -- a call, the lent bytes, the answer, and the bytes afterwards
  answers : Call → List ℕ → Answer → List ℕ → Row
  -- a file and all straight plans of its crew 0
  straight_plans_lem : List ℕ → List (List ℕ) → Row

abbrev pub Holds : Row → Type 0
Holds (answers call before answer after) = AllowsOnly (Allows call before) answer after
Holds (straight_plans_lem file lists) = (list : List ℕ) → StraightIn (reading_for file 0) list ↔ OneOf list lists

-- ---- the files

-- the porter file, byte for byte: its variables, its actions with their conditions, its tasks, its seed and the end
unfoldable pub porter : List ℕ
porter =
    1 ∷ 2 ∷ 1 ∷ 3 ∷ 1 ∷ 2
    ∷ 2 ∷ 0 ∷ 0 ∷ 1
    ∷ 2 ∷ 1 ∷ 0 ∷ 1
    ∷ 2 ∷ 1 ∷ 1 ∷ 2 ∷ 3 ∷ 0 ∷ 1 ∷ 3 ∷ 2 ∷ 1
    ∷ 2 ∷ 2 ∷ 0 ∷ 1 ∷ 3 ∷ 0 ∷ 1 ∷ 3 ∷ 1 ∷ 1
    ∷ 2 ∷ 0 ∷ 1 ∷ 0
    ∷ 4 ∷ 0 ∷ 0 ∷ 1 ∷ 4 ∷ 1 ∷ 0 ∷ 2 ∷ 4 ∷ 2 ∷ 0 ∷ 1
    ∷ 5 ∷ 0 ∷ 0 ∷ 0 ∷ 1 ∷ 6 ∷ []

-- .. with other starts, or other goals, of its three variables
abbrev pub start : ℕ → ℕ → ℕ → List ℕ → List ℕ
start a b c file = set (set (set file 40 a) 44 b) 48 c

abbrev pub goal : ℕ → ℕ → ℕ → List ℕ → List ℕ
goal a b c file = set (set (set file 41 a) 45 b) 49 c

-- records, and the seed 1 with the end
abbrev pub variable : ℕ → List ℕ
variable n = 1 ∷ n ∷ []

abbrev pub action : ℕ → ℕ → ℕ → List ℕ
action v p q = 2 ∷ v ∷ p ∷ q ∷ []

abbrev pub condition : ℕ → ℕ → List ℕ
condition v q = 3 ∷ v ∷ q ∷ []

abbrev pub task : ℕ → ℕ → ℕ → List ℕ
task v p q = 4 ∷ v ∷ p ∷ q ∷ []

abbrev pub close : List ℕ
close = 5 ∷ 0 ∷ 0 ∷ 0 ∷ 1 ∷ 6 ∷ []

-- two variables of 2 values, each 0 to 1, each action wanting the other variable at q
unfoldable pub pair : ℕ → List ℕ
pair q = variable 2 ++ variable 2 ++ action 0 0 1 ++ condition 1 q ++ action 1 0 1 ++ condition 0 q ++ task 0 0 1 ++ task 1 0 1 ++ close

-- .. with a third, free action on a third variable
unfoldable pub pair_and_free : ℕ → List ℕ
pair_and_free q =
    variable 2 ++ variable 2 ++ variable 2 ++ action 0 0 1 ++ condition 1 q ++ action 1 0 1 ++ condition 0 q ++ action 2 0 1
    ++ task 0 0 1 ++ task 1 0 1 ++ task 2 0 1 ++ close

-- one variable of 3 values, actions 1 to 2 and 2 to 1, start 0, goal 2
unfoldable pub round : List ℕ
round = variable 3 ++ action 0 1 2 ++ action 0 2 1 ++ task 0 0 2 ++ close

-- ---- the table

-- six lent bytes; what is not answered stays 9
unfoldable pub lent : List ℕ
lent = 9 ∷ 9 ∷ 9 ∷ 9 ∷ 9 ∷ 9 ∷ []

-- ranks that rise
abbrev pub up : List ℕ
up = 0 ∷ 1 ∷ 2 ∷ 3 ∷ 4 ∷ []

unfoldable pub table : List Row
table =
    -- 1
    answers (draw 1 3) lent (done 282475249 0) (0 ∷ 2 ∷ 1 ∷ 9 ∷ 9 ∷ 9 ∷ [])
    -- 3, 4
    ∷ answers (plan porter up) lent (done 4 0) (0 ∷ 1 ∷ 3 ∷ 2 ∷ 9 ∷ 9 ∷ [])
    ∷ answers (plan porter (3 ∷ 0 ∷ 4 ∷ 1 ∷ 2 ∷ [])) lent (done 4 0) (1 ∷ 0 ∷ 3 ∷ 2 ∷ 9 ∷ 9 ∷ [])
    ∷ straight_plans_lem porter ((0 ∷ 1 ∷ 3 ∷ 2 ∷ []) ∷ (1 ∷ 0 ∷ 3 ∷ 2 ∷ []) ∷ [])
    -- 5, 6, 7
    ∷ answers (plan (goal 0 0 0 porter) up) lent (done 0 0) lent
    ∷ answers (plan (goal 0 2 1 porter) up) lent (three 11 2 0) lent
    ∷ answers (plan (goal 1 2 0 porter) up) lent (three 11 2 2) lent
    -- 9
    ∷ answers (plan (start 0 2 0 (goal 1 0 1 porter)) up) lent (three 10 1 0) lent
    -- 12
    ∷ answers (run porter (0 ∷ 1 ∷ 3 ∷ 2 ∷ [])) lent (done 3 0) (1 ∷ 2 ∷ 1 ∷ 9 ∷ 9 ∷ 9 ∷ [])
    ∷ answers (run porter (1 ∷ 3 ∷ [])) lent (three 15 1 0) lent
    ∷ answers (run porter (0 ∷ 4 ∷ [])) lent (three 16 1 0) lent
    ∷ answers (run porter []) lent (refusal 17 0) lent
    -- 13
    ∷ answers (plan (pair 1) (0 ∷ 1 ∷ [])) lent (refusal 12 0) lent
    ∷ answers (plan (pair 0) (0 ∷ 1 ∷ [])) lent (refusal 12 0) lent
    ∷ answers (plan (pair_and_free 1) (0 ∷ 1 ∷ 2 ∷ [])) lent (refusal 12 1) lent
    ∷ answers (plan (pair_and_free 0) (0 ∷ 1 ∷ 2 ∷ [])) lent (refusal 12 1) lent
    -- 14
    ∷ answers (plan round (0 ∷ 1 ∷ [])) lent (three 10 0 255) lent
    ∷ []

-- row k, counted from 0
abbrev pub row_at : ℕ → Row
row_at k = get_or table k (straight_plans_lem [] [])
