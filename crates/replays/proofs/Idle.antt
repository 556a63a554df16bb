-- After a replay the occupant is idle exactly if the last event was done or there was none.
-- Assumes nothing.
use mathlib.Core.Path.{◌≡◌, refl}
use mathlib.Core.Logic.Iff
use mathlib.Core.Logic.{◌↔◌}
use mathlib.Core.List.{List}
use Prim.Native.Nat.{ℕ, ◌+◌}
use Rattle.study.specs.Study.{Study, action_at}
use Rattle.study.specs.Reading.{says}
use Rattle.plans.specs.Plans.{May}
use Rattle.replays.specs.Log.{Log, event, ended, cut, other, event_length, log_of}
use Rattle.replays.specs.Replay.{idle, Progress, at_start, seen, step_at, comes_to, replayed}
use Rattle.replays.proofs.Events.{done_idle}
use Rattle.replays.proofs.Replays.{Replays, comes_exactly}

-- the action of the last event might be done in the state that it met; where there is no event, `before` holds
abbrev pub LastDone : Study → Progress → ℕ → Log → Type 0 → Type 0
LastDone t p at ended before = before
LastDone t p at cut before = before
LastDone t p at other before = before
LastDone t p at (event tick i rest) before =
    LastDone t (seen p (action_at t.actions i) tick (step_at at p.last tick)) (at + event_length) rest (May p.occupant.state (action_at t.actions i))

module _ (t : Study) where
  last_same : {A B : Type 0} (p : Progress) (at : ℕ) (log : Log) → A ↔ B → LastDone t p at log A ↔ LastDone t p at log B
  last_same p at ended f = f
  last_same p at cut f = f
  last_same p at other f = f
  last_same p at (event tick i rest) f = (λ l. l, λ l. l)

  idle_last :
      (p : Progress) (at : ℕ) (log : Log) (end : Progress) → Replays t p at log end
      → (end.occupant.stance ≡ idle) ↔ LastDone t p at log (p.occupant.stance ≡ idle)
  idle_last p at ended end r = rw r (λ e. e, λ e. e)
  idle_last p at cut end r = absurd r
  idle_last p at other end r = absurd r
  idle_last p at (event tick i rest) end (few, usable, forth, r) =
      let a = action_at t.actions i in
      let step = step_at at p.last tick in
      let (to, from) = done_idle p a tick step in
      Iff.trans (idle_last (seen p a tick step) (at + event_length) rest end r) (last_same (seen p a tick step) (at + event_length) rest (from, to))

  pub idle_exactly :
      (log : List ℕ) (end : Progress) → replayed (says t) log ≡ comes_to end
      → (end.occupant.stance ≡ idle) ↔ LastDone t (at_start t) 0 (log_of log) (Unit {0})
  unfolding replayed
  idle_exactly log end e =
      Iff.trans (idle_last (at_start t) 0 (log_of log) end ((comes_exactly t (at_start t) 0 (log_of log) end).0 e))
      (last_same (at_start t) 0 (log_of log) (λ e. tt, λ u. refl))
