-- What replaying a log for a crew answers: the file's own refusal, then 22, then event by event 2, 1, 19, 14, 20, 23; or 0 with the events done and held, and the occupant in the lent record.
-- Assumes nothing.
use Rattle.std.specs.Prelude.{ℕ, ◌+◌, ◌-◌, ◌/◌, ◌%◌, List, [], ◌∷◌, ◌++◌, leb, eqb, length, replicate}
use Rattle.plain.specs.Choose.{pick}
use Rattle.answer.specs.Answers.{done, refusal}
use Rattle.answer.specs.Allowing.{Allowing, Exactly}
use Rattle.answer.specs.declared.Answer.{Answer}
use Rattle.study.specs.Study.{Condition, Action, Study, in_force, action_at}
use Rattle.study.specs.Reading.{Said, says, refused, reading_for}
use Rattle.plans.specs.Plans.{State, value_of, after, start_state}
use Rattle.replays.specs.Log.{Log, event, ended, cut, other, most_events, event_length, log_of}

-- ---- the occupant

-- idle, or waiting for a variable to have a value
pub data Stance : Type 0 where
  idle : Stance
  waits_for : ℕ → ℕ → Stance

-- `sum` is that of all steps
pub record Occupant : Type 0 where
  pub state : State
  pub stance : Stance
  pub sum : ℕ

-- the occupant after some events, how many of them were done and held, and the last one's tick
pub record Progress : Type 0 where
  pub occupant : Occupant
  pub done : ℕ
  pub held : ℕ
  pub last : ℕ

-- at a crew's start, idle, before any event
abbrev pub at_start : Study → Progress
at_start t = record { occupant = record { state = start_state t; stance = idle; sum = 0 }; done = 0; held = 0; last = 0 }

-- ---- one event

-- the first condition that fails is waited for: a condition's variables rise, so it is the lowest
unfoldable pub unmet : State → List Condition → Stance
unmet s [] = idle
unmet s (c ∷ rest) = pick (eqb (value_of s c.var) c.value) (unmet s rest) (waits_for c.var c.value)

-- in the order of 15: the action's own variable is to have pre, then each condition is to hold
unfoldable pub lacks : State → Action → Stance
lacks s a = pick (eqb (value_of s a.var) a.pre) (unmet s a.conditions) (waits_for a.var a.pre)

-- the action is done where nothing is lacking, and else alters no value
abbrev pub reaches : State → Action → Stance → State
reaches s a idle = after s a
reaches s a (waits_for v q) = s

abbrev pub done_by : Stance → ℕ
done_by idle = 1
done_by (waits_for v q) = 0

abbrev pub held_by : Stance → ℕ
held_by idle = 0
held_by (waits_for v q) = 1

-- an event with its tick and its step, and what its action lacks
abbrev pub moved : Progress → Action → ℕ → ℕ → Stance → Progress
moved p a tick step lack =
    record {
      occupant = record { state = reaches p.occupant.state a lack; stance = lack; sum = p.occupant.sum + step };
      done = p.done + done_by lack;
      held = p.held + held_by lack;
      last = tick;
    }

abbrev pub seen : Progress → Action → ℕ → ℕ → Progress
seen p a tick step = moved p a tick step (lacks p.occupant.state a)

-- ticks are of 16 bits and roll over
abbrev pub round : ℕ
round = 65536

-- the step to a tick from the last one, taken round the roll; that of the first event, which stands at 0, is 0
unfoldable pub step_at : ℕ → ℕ → ℕ → ℕ
step_at at last tick = pick (eqb at 0) 0 ((tick + round - last) % round)

-- a step so long, or longer, went back
abbrev pub went_back_lem : ℕ
went_back_lem = 32768

-- ---- a log

-- a replay comes to the log's end, or is refused
pub data Replayed : Type 0 where
  comes_to : Progress → Replayed
  stops : Answer → Replayed

-- the events from a place on
unfoldable pub replay_on : Study → Progress → ℕ → Log → Replayed
replay_on t p at ended = comes_to p
replay_on t p at cut = stops (refusal 1 at)
replay_on t p at other = stops (refusal 2 at)
replay_on t p at (event tick i rest) =
    pick (leb most_events (p.done + p.held)) (stops (refusal 19 at))
    (pick (leb (length t.actions) i) (stops (refusal 14 at))
    (pick (in_force t.situation (action_at t.actions i))
    (pick (leb went_back_lem (step_at at p.last tick)) (stops (refusal 23 at))
    (replay_on t (seen p (action_at t.actions i) tick (step_at at p.last tick)) (at + event_length) rest))
    (stops (refusal 20 at))))

-- a log replayed on what a file says to a crew
unfoldable pub replayed : Said Study → List ℕ → Replayed
replayed (says t) log = replay_on t (at_start t) 0 (log_of log)
replayed (refused number place) log = stops (refusal number place)

-- ---- the answer, and the record

abbrev pub replay_answer : Replayed → Answer
replay_answer (comes_to p) = done p.done p.held
replay_answer (stops a) = a

-- the bytes of the record that hold the state; those past the last variable are 0
abbrev pub state_room : ℕ
state_room = 32

abbrev pub state_bytes : State → List ℕ
state_bytes s = s ++ replicate (state_room - length s) 0

-- four bytes, least significant first
abbrev pub sum_bytes : ℕ → List ℕ
sum_bytes n = n % 256 ∷ n / 256 % 256 ∷ n / 65536 % 256 ∷ n / 16777216 ∷ []

-- waiting or not, the variable and the value, and a spare byte
abbrev pub stance_bytes : Stance → List ℕ
stance_bytes idle = 0 ∷ 0 ∷ 0 ∷ 0 ∷ []
stance_bytes (waits_for v q) = 1 ∷ v ∷ q ∷ 0 ∷ []

abbrev pub occupant_bytes : Occupant → List ℕ
occupant_bytes o = state_bytes o.state ++ (sum_bytes o.sum ++ stance_bytes o.stance)

-- the record afterwards: the occupant, or as it was lent
abbrev pub replay_leaves : Replayed → List ℕ → List ℕ
replay_leaves (comes_to p) before = occupant_bytes p.occupant
replay_leaves (stops a) before = before

-- what replaying a log on a file for a crew may answer, and the lent record afterwards
abbrev pub ReplayAllows : List ℕ → ℕ → List ℕ → List ℕ → Allowing
ReplayAllows file crew log before =
    Exactly (replay_answer (replayed (reading_for file crew) log)) (replay_leaves (replayed (reading_for file crew) log) before)
