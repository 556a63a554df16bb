-- The record that a replay leaves has forty bytes, whichever was lent: its state has a value for each variable, 32 at most.
-- Assumes nothing.
use mathlib.Core.Path.{◌≡◌, refl, ◌∙◌}
use mathlib.Core.List.{List, ◌++◌}
use Prim.Native.Nat.{ℕ, ◌+◌, ◌-◌, ◌≤◌}
use native.Mathlib.Omega.{arith}
use lib.ListN.{length, replicate, length-append, length-replicate}
use Rattle.study.specs.Study.{Action, Study, action_at}
use Rattle.study.specs.Reading.{says}
use Rattle.lawful.specs.Lawful.{Lawful}
use Rattle.plans.specs.Plans.{State}
use Rattle.plans.proofs.States.{start-length, after-length}
use Rattle.replays.specs.Log.{Log, event, ended, cut, other, event_length, log_of}
use Rattle.replays.specs.Replay.{Stance, idle, waits_for, Occupant, Progress, at_start, lacks, reaches, seen, step_at, comes_to, replayed, state_room, state_bytes, sum_bytes, stance_bytes, occupant_bytes, replay_leaves}
use Rattle.replays.proofs.Replays.{Replays, comes_exactly}

reaches-length : (s : State) (a : Action) (f : Stance) → length (reaches s a f) ≡ length s
reaches-length s a idle = after-length s a
reaches-length s a (waits_for v q) = refl

module _ (t : Study) where
  replays_length :
      (p : Progress) (at : ℕ) (log : Log) (end : Progress) → Replays t p at log end → length end.occupant.state ≡ length p.occupant.state
  replays_length p at ended end r = rw r
  replays_length p at cut end r = absurd r
  replays_length p at other end r = absurd r
  replays_length p at (event tick i rest) end (few, usable, forth, r) =
      let a = action_at t.actions i in
      let s = p.occupant.state in
      replays_length (seen p a tick (step_at at p.last tick)) (at + event_length) rest end r ∙ reaches-length s a (lacks s a)

  -- a value for each variable
  pub state_length : Lawful t → (log : List ℕ) (end : Progress) → replayed (says t) log ≡ comes_to end → length end.occupant.state ≡ length t.counts
  unfolding replayed
  state_length lawful log end e =
      replays_length (at_start t) 0 (log_of log) end ((comes_exactly t (at_start t) 0 (log_of log) end).0 e) ∙ (start-length t ∙ lawful.a_task_each)

state_bytes_lem : (s : State) → length s ≤ state_room → length (state_bytes s) ≡ state_room
state_bytes_lem s h = omega (arith, length-append s (replicate (state_room - length s) 0), length-replicate {A = ℕ} (state_room - length s) 0)

stance_bytes_lem : (f : Stance) → length (stance_bytes f) ≡ 4
stance_bytes_lem idle = refl
stance_bytes_lem (waits_for v q) = refl

occupant_bytes_lem : (o : Occupant) → length o.state ≤ state_room → length (occupant_bytes o) ≡ 40
occupant_bytes_lem o h =
    let rest = sum_bytes o.sum ++ stance_bytes o.stance in
    omega (arith, length-append (state_bytes o.state) rest, state_bytes_lem o.state h, stance_bytes_lem o.stance)

pub record_length :
    (t : Study) → Lawful t → (log : List ℕ) (end : Progress) (before : List ℕ)
    → replayed (says t) log ≡ comes_to end → length (replay_leaves (replayed (says t) log) before) ≡ 40
record_length t lawful log end before e =
    rw e (occupant_bytes_lem end.occupant (omega (arith, state_length t lawful log end e, lawful.few_variables)))
