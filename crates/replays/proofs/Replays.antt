-- A log that is replayed to its end, event by event, as a relation beside the function: what is proved of replays is an induction over it.
-- Assumes nothing.
use mathlib.Core.Path.{◌≡◌, refl, ap, subst}
use mathlib.Core.Logic.{◌↔◌}
use Prim.Native.Nat.{ℕ, ◌+◌, ◌<◌}
use lib.Dec.{leb}
use lib.ListN.{length}
use borrow.Author.Tests.{leb-false, lt-leb}
use Rattle.plain.proofs.Tests.{picked}
use Rattle.study.specs.Study.{Study, in_force, action_at}
use Rattle.plans.specs.Plans.{Usable}
use Rattle.replays.specs.Log.{Log, event, ended, cut, other, most_events, event_length}
use Rattle.replays.specs.Replay.{Progress, seen, step_at, went_back_lem, Replayed, comes_to, stops, replay_on}

-- from a place on, each event of the log may be looked at, and the last leaves this progress
abbrev pub Replays : Study → Progress → ℕ → Log → Progress → Type 0
Replays t p at ended end = p ≡ end
Replays t p at cut end = ⊥
Replays t p at other end = ⊥
Replays t p at (event tick i rest) end =
    (p.done + p.held < most_events) × Usable t i × (step_at at p.last tick < went_back_lem)
    × Replays t (seen p (action_at t.actions i) tick (step_at at p.last tick)) (at + event_length) rest end

abbrev Comes : Study → Progress → ℕ → Log → Replayed → Type 0
Comes t p at log (comes_to end) = Replays t p at log end
Comes t p at log (stops a) = Unit {0}

comes : (t : Study) (p : Progress) (at : ℕ) (log : Log) → Comes t p at log (replay_on t p at log)
unfolding replay_on
comes t p at ended = refl
comes t p at cut = tt
comes t p at other = tt
comes t p at (event tick i rest) =
    let step = step_at at p.last tick in
    let a = action_at t.actions i in
    picked (Comes t p at (event tick i rest)) (leb most_events (p.done + p.held)) (λ e. tt)
    λ few.
    picked (Comes t p at (event tick i rest)) (leb (length t.actions) i) (λ e. tt)
    λ there.
    picked (Comes t p at (event tick i rest)) (in_force t.situation a)
    (λ force.
    picked (Comes t p at (event tick i rest)) (leb went_back_lem step) (λ e. tt)
    λ forth.
    more (leb-false most_events (p.done + p.held) few) (record { there = leb-false (length t.actions) i there; in_force_lem = force })
    (leb-false went_back_lem step forth)
    (replay_on t (seen p a tick step) (at + event_length) rest) (comes t (seen p a tick step) (at + event_length) rest))
    λ e. tt
  where
    more :
        p.done + p.held < most_events → Usable t i → step_at at p.last tick < went_back_lem
        → (r : Replayed) → Comes t (seen p (action_at t.actions i) tick (step_at at p.last tick)) (at + event_length) rest r → Comes t p at (event tick i rest) r
    more few usable forth (comes_to end) c = (few, usable, forth, c)
    more few usable forth (stops a) c = tt

to_end : (t : Study) (p : Progress) (at : ℕ) (log : Log) (end : Progress) → Replays t p at log end → replay_on t p at log ≡ comes_to end
unfolding replay_on
to_end t p at ended end r = ap comes_to r
to_end t p at cut end r = absurd r
to_end t p at other end r = absurd r
to_end t p at (event tick i rest) end (few, usable, forth, r) =
    let step = step_at at p.last tick in
    rw (lt-leb most_events (p.done + p.held) few, lt-leb (length t.actions) i usable.there, usable.in_force_lem, lt-leb went_back_lem step forth)
    (to_end t (seen p (action_at t.actions i) tick step) (at + event_length) rest end r)

pub comes_exactly : (t : Study) (p : Progress) (at : ℕ) (log : Log) (end : Progress) → (replay_on t p at log ≡ comes_to end) ↔ Replays t p at log end
comes_exactly t p at log end = (λ e. subst (Comes t p at log) e (comes t p at log), to_end t p at log end)
