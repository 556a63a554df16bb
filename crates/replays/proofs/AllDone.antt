-- A log is replayed with no event held exactly if it is a run of its actions, and then the replay leaves the state that the run ends in.
-- Assumes nothing.
use mathlib.Core.Path.{◌≡◌, refl, ap, ◌∙◌}
use mathlib.Core.Logic.{◌↔◌}
use mathlib.Core.List.{List}
use Prim.Native.Nat.{ℕ, ◌+◌, ◌≤◌}
use native.Mathlib.Omega.{arith}
use Rattle.study.specs.Study.{Action, Study, action_at}
use Rattle.study.specs.Reading.{says}
use Rattle.plans.specs.Plans.{State, after, start_state, May, Runs}
use Rattle.replays.specs.Log.{Log, event, ended, cut, other, event_length, log_of, actions_of}
use Rattle.replays.specs.Replay.{Stance, idle, waits_for, Progress, at_start, lacks, moved, seen, step_at, comes_to, replayed}
use Rattle.replays.proofs.Events.{LacksSays, lacks_says, may_idle, done_after}
use Rattle.replays.proofs.Replays.{Replays, comes_exactly}

module _ (p : Progress) (a : Action) (tick step : ℕ) where
  held_rises : p.held ≤ (seen p a tick step).held
  held_rises = omega arith

  -- no more held: the action might be done
  none_held : (seen p a tick step).held ≤ p.held → May p.occupant.state a
  none_held = from (lacks p.occupant.state a) (lacks_says p.occupant.state a)
    where
      from : (f : Stance) → LacksSays p.occupant.state a f → (moved p a tick step f).held ≤ p.held → May p.occupant.state a
      from idle m h = m
      from (waits_for v q) lack h = absurd (omega arith)

  held_same_count : May p.occupant.state a → (seen p a tick step).held ≡ p.held
  held_same_count m = rw ((may_idle p.occupant.state a).0 m) (omega arith)

module _ (t : Study) where
  held_more : (p : Progress) (at : ℕ) (log : Log) (end : Progress) → Replays t p at log end → p.held ≤ end.held
  held_more p at ended end r = rw r (omega arith)
  held_more p at cut end r = absurd r
  held_more p at other end r = absurd r
  held_more p at (event tick i rest) end (few, usable, forth, r) =
      let a = action_at t.actions i in
      let step = step_at at p.last tick in
      omega (arith, held_rises p a tick step, held_more (seen p a tick step) (at + event_length) rest end r)

  all_done :
      (p : Progress) (at : ℕ) (log : Log) (end : Progress) → Replays t p at log end → end.held ≤ p.held
      → Runs t p.occupant.state (actions_of log) end.occupant.state
  unfolding actions_of
  all_done p at ended end r h = rw r
  all_done p at cut end r h = absurd r
  all_done p at other end r h = absurd r
  all_done p at (event tick i rest) end (few, usable, forth, r) h =
      let a = action_at t.actions i in
      let step = step_at at p.last tick in
      let may = none_held p a tick step (omega (arith, h, held_more (seen p a tick step) (at + event_length) rest end r)) in
      let on =
      all_done (seen p a tick step) (at + event_length) rest end r (omega (arith, h, held_rises p a tick step)) in
      (usable, may, rw (done_after p a tick step may) at on)

  run_done :
      (p : Progress) (at : ℕ) (log : Log) (end : Progress) (s e : State) → Replays t p at log end → p.occupant.state ≡ s
      → Runs t s (actions_of log) e → (end.held ≡ p.held) × (end.occupant.state ≡ e)
  unfolding actions_of
  run_done p at ended end s e r same q = (rw r, rw (← r) (same ∙ q))
  run_done p at cut end s e r same q = absurd r
  run_done p at other end s e r same q = absurd r
  run_done p at (event tick i rest) end s e (few, usable, forth, r) same (u, may, q) =
      let a = action_at t.actions i in
      let step = step_at at p.last tick in
      let here : May p.occupant.state a = rw same may in
      let next : (seen p a tick step).occupant.state ≡ after s a = done_after p a tick step here ∙ ap (λ (s : State). after s a) same in
      let (held, state) = run_done (seen p a tick step) (at + event_length) rest end (after s a) e r next q in
      (held ∙ held_same_count p a tick step here, state)

  -- every event done: a run of the log's actions, from the start to the state left
  pub all_done_runs :
      (log : List ℕ) (end : Progress) → replayed (says t) log ≡ comes_to end
      → (end.held ≡ 0) ↔ Runs t (start_state t) (actions_of (log_of log)) end.occupant.state
  unfolding replayed
  all_done_runs log end e =
      let r = (comes_exactly t (at_start t) 0 (log_of log) end).0 e in (
        λ none. all_done (at_start t) 0 (log_of log) end r (omega (arith, none)),
        λ q. (run_done (at_start t) 0 (log_of log) end (start_state t) end.occupant.state r refl q).0,
      )

  -- .. and where the actions may be done one after another to a state, that is the state left
  pub run_left :
      (log : List ℕ) (end : Progress) (e : State) → replayed (says t) log ≡ comes_to end
      → Runs t (start_state t) (actions_of (log_of log)) e → (end.held ≡ 0) × (end.occupant.state ≡ e)
  unfolding replayed
  run_left log end e c q =
      run_done (at_start t) 0 (log_of log) end (start_state t) e ((comes_exactly t (at_start t) 0 (log_of log) end).0 c) refl q
