-- How the code's events, occupant and outcome answer to the definition of a replay.
-- Assumes nothing.
use Rattle.std.specs.Prelude.{◌≡◌, ℕ, ◌+◌, ◌<◌, ◌≤◌, List, Option, None, Some, Result, Ok, Err, length, drop}
use Rattle.answer.specs.Answers.{refused}
use Rattle.answer.specs.declared.Refusal.{Refusal}
use Rattle.study.specs.Study.{Study, action_at}
use Rattle.replays.specs.Log.{event_length, log_of}
use Rattle.replays.specs.Replay.{Progress, at_start, lacks, reaches, seen, comes_to, stops, replay_on}
use Rattle.barring.specs.declared.Want.{Want}
use Rattle.barring.specs.Stances.{stance_of}
use Rattle.barring.specs.Telling.{shown}
use Rattle.occupant.specs.declared.Occupant.{Occupant}
use Rattle.following.specs.declared.looking.Event.{Event}
use Rattle.following.specs.declared.Followed.{Followed}

abbrev pub held_of : Option Want → ℕ
held_of None = 0
held_of (Some w) = 1

-- an event is whole, among those that a log may have, and its numbers are in range
abbrev pub Sound : List ℕ → ℕ → ℕ → Result Event Refusal → Type 0
Sound log at actions (Ok e) = (at + event_length ≤ length log) × (at < 65536) × (e.action < actions) × (e.step < 32768)
Sound log at actions (Err r) = Unit {0}

-- what is seen at a place is what the definition does there
abbrev pub Looks : Study → Progress → List ℕ → ℕ → Result Event Refusal → Type 0
Looks t p log at (Ok e) =
    replay_on t p at (log_of (drop at log))
    ≡ replay_on t (seen p (action_at t.actions e.action) e.tick e.step) (at + event_length) (log_of (drop (at + event_length) log))
Looks t p log at (Err r) = replay_on t p at (log_of (drop at log)) ≡ stops (refused r)

-- what is behind the whole events is the log's end, or what the definition refuses there
abbrev pub Left : Study → Progress → List ℕ → ℕ → Result Unit Refusal → Type 0
Left t p log at (Ok u) = length log ≤ at
Left t p log at (Err r) = Looks t p log at (Err r)

-- an event's action, from one table to the next
pub record Takes (t : Study) (i : ℕ) (table table' : List ℕ) (lack : Option Want) : Type 0 where
  pub stance : lack ≡ stance_of (lacks (shown t table) (action_at t.actions i))
  pub state : shown t table' ≡ reaches (shown t table) (action_at t.actions i) (lacks (shown t table) (action_at t.actions i))
  pub long : length table' ≡ 32

-- the occupant and the table say what the definition's occupant says
pub record Shows (t : Study) (p : Progress) (one : Occupant) (table : List ℕ) : Type 0 where
  pub stance : one.stance ≡ stance_of p.occupant.stance
  pub sum : one.sum ≡ p.occupant.sum
  pub state : shown t table ≡ p.occupant.state
  pub long : length table ≡ 32

-- the log's end, at which the sum fits four bytes
pub record Reached (t : Study) (log table : List ℕ) (one : Occupant) (done held : ℕ) : Type 0 where
  pub end : Progress
  pub comes : replay_on t (at_start t) 0 (log_of log) ≡ comes_to end
  pub shows : Shows t end one table
  pub done_is : done ≡ end.done
  pub held_is : held ≡ end.held
  pub fits : one.sum < 4294967296

abbrev pub Came : Study → List ℕ → List ℕ → Result Followed Refusal → Type 0
Came t log table (Ok end) = Reached t log table end.occupant end.done end.held
Came t log table (Err r) = replay_on t (at_start t) 0 (log_of log) ≡ stops (refused r)
