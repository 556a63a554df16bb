-- What running a list for a crew answers: the file's own refusal, then 22, then 13, then step by step 14, 20, 15, 16, then 17; or 0 with the number of variables, and the end state in the buffer.
-- Assumes nothing.
use Rattle.std.specs.Prelude.{ℕ, ◌+◌, Bool, false, ◌||◌, List, [], ◌∷◌, ◌++◌, leb, ltb, eqb, length, drop}
use Rattle.plain.specs.Choose.{pick}
use Rattle.answer.specs.Answers.{three, done, refusal}
use Rattle.answer.specs.Allowing.{Allowing, Exactly}
use Rattle.answer.specs.declared.Answer.{Answer}
use Rattle.study.specs.Study.{Condition, Action, Task, Study, in_force, action_at}
use Rattle.study.specs.Reading.{Said, says, refused, reading_for}
use Rattle.plans.specs.Plans.{State, value_of, after, start_state}

-- a run ends in a state, or is refused
pub data Ran : Type 0 where
  ends_in : State → Ran
  stops : Answer → Ran

-- the variable of the first condition that fails, or none: a condition's variables rise, so it is the lowest
pub data Failing : Type 0 where
  none : Failing
  fails : ℕ → Failing

unfoldable pub failing : State → List Condition → Failing
failing s [] = none
failing s (c ∷ rest) = pick (eqb (value_of s c.var) c.value) (failing s rest) (fails c.var)

-- 15: the action's own variable if pre fails, else that of the first failing condition
unfoldable pub barred : State → Action → Failing
barred s a = pick (eqb (value_of s a.var) a.pre) (failing s a.conditions) (fails a.var)

-- the variable has held the value in one of these states
unfoldable pub held : List State → ℕ → ℕ → Bool
held [] v q = false
held (s ∷ past) v q = eqb (value_of s v) q || held past v q

-- 17: the lowest variable away from the goal, counted from v
unfoldable pub away : State → ℕ → List Task → Failing
away s v [] = none
away s v (k ∷ rest) = pick (eqb (value_of s v) k.goal) (away s (v + 1) rest) (fails v)

abbrev pub at_goal : State → Failing → Ran
at_goal s none = ends_in s
at_goal s (fails v) = stops (refusal 17 v)

-- step k, unless it is barred or takes a value held before
abbrev pub stepped : List State → State → Action → ℕ → Failing → Ran → Ran
stepped past s a k (fails v) on = stops (three 15 k v)
stepped past s a k none on = pick (held (s ∷ past) a.var a.post) (stops (three 16 k a.var)) on

-- from a state with a past, the steps from number k on
unfoldable pub run_on : Study → List State → State → ℕ → List ℕ → Ran
run_on t past s k [] = at_goal s (away s 0 t.tasks)
run_on t past s k (i ∷ rest) =
    pick (leb (length t.actions) i) (stops (refusal 14 k))
    (pick (in_force t.situation (action_at t.actions i))
    (stepped past s (action_at t.actions i) k (barred s (action_at t.actions i)) (run_on t (s ∷ past) (after s (action_at t.actions i)) (k + 1) rest))
    (stops (refusal 20 k)))

-- a list run on what a file says to a crew, with room for an end state
unfoldable pub ran : Said Study → ℕ → List ℕ → Ran
ran (says t) room list = pick (ltb room (length t.counts)) (stops (refusal 13 (length t.counts))) (run_on t [] (start_state t) 0 list)
ran (refused number place) room list = stops (refusal number place)

abbrev pub run_answer : Ran → Answer
run_answer (ends_in s) = done (length s) 0
run_answer (stops a) = a

-- the buffer afterwards: the end state in its first bytes, or as it was
abbrev pub run_leaves : Ran → List ℕ → List ℕ
run_leaves (ends_in s) before = s ++ drop (length s) before
run_leaves (stops a) before = before

-- what running a list on a file for a crew may answer, and the buffer afterwards
abbrev pub RunAllows : List ℕ → ℕ → List ℕ → List ℕ → Allowing
RunAllows file crew list before =
    Exactly (run_answer (ran (reading_for file crew) (length before) list)) (run_leaves (ran (reading_for file crew) (length before) list) before)
