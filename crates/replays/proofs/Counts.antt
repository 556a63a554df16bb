-- Events done and held make the number of events, a fourth of the log's length; and the sum of their steps fits its four bytes.
-- Assumes nothing.
use mathlib.Core.Path.{◌≡◌, refl}
use mathlib.Core.Bool.{Bool, true, false}
use mathlib.Core.List.{List, [], ◌∷◌}
use Prim.Native.Nat.{ℕ, ◌+◌, ◌*◌, ◌≤◌, ◌<◌}
use native.Mathlib.Omega.{arith}
use lib.Dec.{eqb}
use lib.ListN.{length}
use Rattle.plain.specs.Choose.{pick}
use Rattle.study.specs.Study.{Study, action_at}
use Rattle.study.specs.Reading.{says}
use Rattle.replays.specs.Log.{Log, event, ended, cut, other, event_kind, most_events, event_length, short, log_of, actions_of}
use Rattle.replays.specs.Replay.{Progress, at_start, seen, step_at, comes_to, replayed}
use Rattle.replays.proofs.Events.{one_more}
use Rattle.replays.proofs.Replays.{Replays, comes_exactly}

-- the log ends with a whole event, or has none
abbrev pub Whole : Log → Type 0
Whole (event tick i rest) = Whole rest
Whole ended = Unit {0}
Whole cut = ⊥
Whole other = ⊥

short_torn : (kind : ℕ) → Whole (short kind) → ⊥
short_torn kind = from (eqb kind event_kind)
  where
    from : (b : Bool) → Whole (pick b cut other) → ⊥
    from true w = w
    from false w = w

-- four bytes an event
pub whole_length : (bytes : List ℕ) → Whole (log_of bytes) → length bytes ≡ event_length * length (actions_of (log_of bytes))
unfolding log_of actions_of
whole_length [] w = refl
whole_length (kind ∷ []) w = absurd (short_torn kind w)
whole_length (kind ∷ high ∷ []) w = absurd (short_torn kind w)
whole_length (kind ∷ high ∷ low ∷ []) w = absurd (short_torn kind w)
whole_length (kind ∷ high ∷ low ∷ action ∷ rest) w = from (eqb kind event_kind) w (whole_length rest)
  where
    from :
        (b : Bool) → Whole (pick b (event (256 * high + low) action (log_of rest)) other)
        → (Whole (log_of rest) → length rest ≡ event_length * length (actions_of (log_of rest)))
        → length (kind ∷ high ∷ low ∷ action ∷ rest) ≡ event_length * length (actions_of (pick b (event (256 * high + low) action (log_of rest)) other))
    from true w f = omega (arith, f w)
    from false w f = absurd w

module _ (t : Study) where
  replays_whole : (p : Progress) (at : ℕ) (log : Log) (end : Progress) → Replays t p at log end → Whole log
  replays_whole p at ended end r = tt
  replays_whole p at cut end r = r
  replays_whole p at other end r = r
  replays_whole p at (event tick i rest) end (few, usable, forth, r) =
      replays_whole (seen p (action_at t.actions i) tick (step_at at p.last tick)) (at + event_length) rest end r

  pub replays_count :
      (p : Progress) (at : ℕ) (log : Log) (end : Progress) → Replays t p at log end
      → end.done + end.held ≡ p.done + p.held + length (actions_of log)
  unfolding actions_of
  replays_count p at ended end r = rw r (omega arith)
  replays_count p at cut end r = absurd r
  replays_count p at other end r = absurd r
  replays_count p at (event tick i rest) end (few, usable, forth, r) =
      let a = action_at t.actions i in
      let step = step_at at p.last tick in
      omega (arith, one_more p a tick step, replays_count (seen p a tick step) (at + event_length) rest end r)

  -- answered 0: as many events as the log has, and they are all of its bytes
  pub done_and_held :
      (log : List ℕ) (end : Progress) → replayed (says t) log ≡ comes_to end
      → (end.done + end.held ≡ length (actions_of (log_of log))) × (length log ≡ event_length * (end.done + end.held))
  unfolding replayed
  done_and_held log end e =
      let r = (comes_exactly t (at_start t) 0 (log_of log) end).0 e in
      let count = replays_count (at_start t) 0 (log_of log) end r in
      (omega (arith, count), omega (arith, count, whole_length log (replays_whole (at_start t) 0 (log_of log) end r)))

  -- never more than may be, each with a step below 32,768: so the sum is below 2^32
  replays_few :
      (p : Progress) (at : ℕ) (log : Log) (end : Progress) → Replays t p at log end → p.done + p.held ≤ most_events → end.done + end.held ≤ most_events
  replays_few p at ended end r h = rw r at h
  replays_few p at cut end r h = absurd r
  replays_few p at other end r h = absurd r
  replays_few p at (event tick i rest) end (few, usable, forth, r) h =
      let a = action_at t.actions i in
      let step = step_at at p.last tick in
      replays_few (seen p a tick step) (at + event_length) rest end r (omega (arith, few, one_more p a tick step))

  replays_sum :
      (p : Progress) (at : ℕ) (log : Log) (end : Progress) → Replays t p at log end
      → p.occupant.sum ≤ 32767 * (p.done + p.held) → end.occupant.sum ≤ 32767 * (end.done + end.held)
  replays_sum p at ended end r h = rw r at h
  replays_sum p at cut end r h = absurd r
  replays_sum p at other end r h = absurd r
  replays_sum p at (event tick i rest) end (few, usable, forth, r) h =
      let a = action_at t.actions i in
      let step = step_at at p.last tick in
      replays_sum (seen p a tick step) (at + event_length) rest end r (omega (arith, h, forth, one_more p a tick step))

  pub few_and_low :
      (log : List ℕ) (end : Progress) → replayed (says t) log ≡ comes_to end → (end.done + end.held ≤ most_events) × (end.occupant.sum < 4294967296)
  unfolding replayed
  few_and_low log end e =
      let r = (comes_exactly t (at_start t) 0 (log_of log) end).0 e in
      let few = replays_few (at_start t) 0 (log_of log) end r (omega arith) in
      (few, omega (arith, few, replays_sum (at_start t) 0 (log_of log) end r (omega arith)))
