-- A step leads from the last tick to this one round the roll; and the sum is that of all events' steps, held ones too.
-- Assumes nothing.
use mathlib.Core.Path.{◌≡◌, refl}
use mathlib.Core.Logic.{◌≢◌}
use mathlib.Core.List.{List}
use Prim.Native.Nat.{ℕ, ◌+◌, ◌%◌, ◌<◌}
use native.Mathlib.Omega.{arith}
use borrow.Author.Tests.{ne_eqb}
use Rattle.study.specs.Study.{Study, action_at}
use Rattle.study.specs.Reading.{says}
use Rattle.replays.specs.Log.{Log, event, ended, cut, other, event_length, log_of}
use Rattle.replays.specs.Replay.{Progress, at_start, seen, round, step_at, comes_to, replayed}
use Rattle.replays.proofs.Replays.{Replays, comes_exactly}

-- the first event's step
pub first_step : (last tick : ℕ) → step_at 0 last tick ≡ 0
unfolding step_at
first_step last tick = refl

-- any other's is shorter than the round and makes the tick
pub step_makes_lem :
    (at last tick : ℕ) → at ≢ 0 → last < round → tick < round → (step_at at last tick < round) × ((last + step_at at last tick) % round ≡ tick)
unfolding step_at
step_makes_lem at last tick o l h = rw (ne_eqb at 0 o) (omega arith, omega arith)

-- the steps of the events from a place on, which ticks alone settle
abbrev pub steps_from : ℕ → ℕ → Log → ℕ
steps_from at last (event tick i rest) = step_at at last tick + steps_from (at + event_length) tick rest
steps_from at last ended = 0
steps_from at last cut = 0
steps_from at last other = 0

module _ (t : Study) where
  replays_steps :
      (p : Progress) (at : ℕ) (log : Log) (end : Progress) → Replays t p at log end
      → end.occupant.sum ≡ p.occupant.sum + steps_from at p.last log
  replays_steps p at ended end r = rw r (omega arith)
  replays_steps p at cut end r = absurd r
  replays_steps p at other end r = absurd r
  replays_steps p at (event tick i rest) end (few, usable, forth, r) =
      omega (arith, replays_steps (seen p (action_at t.actions i) tick (step_at at p.last tick)) (at + event_length) rest end r)

  pub sum_of_steps : (log : List ℕ) (end : Progress) → replayed (says t) log ≡ comes_to end → end.occupant.sum ≡ steps_from 0 0 (log_of log)
  unfolding replayed
  sum_of_steps log end e = omega (arith, replays_steps (at_start t) 0 (log_of log) end ((comes_exactly t (at_start t) 0 (log_of log) end).0 e))
