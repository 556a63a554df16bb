-- A log that is too long comes to what its first bytes come to, those of one event more than a log may have: so it may be cut behind these.
-- Assumes nothing.
use mathlib.Core.Path.{◌≡◌, refl, sym, ap, ◌∙◌}
use mathlib.Core.Bool.{Bool, true, false}
use mathlib.Core.List.{List, [], ◌∷◌}
use Prim.Native.Nat.{ℕ, zero, suc, ◌+◌, ◌*◌, ◌≤◌}
use native.Mathlib.Omega.{arith}
use lib.Dec.{leb, eqb}
use lib.ListN.{length, take}
use borrow.Author.Tests.{le-leb}
use Rattle.plain.specs.Choose.{pick}
use Rattle.answer.specs.Answers.{refusal}
use Rattle.study.specs.Study.{Study, in_force, action_at}
use Rattle.study.specs.Reading.{Said, says, refused}
use Rattle.replays.specs.Log.{Log, event, other, event_kind, most_events, event_length, log_of}
use Rattle.replays.specs.Replay.{Progress, Replayed, stops, at_start, seen, step_at, went_back_lem, replay_on, replayed}
use Rattle.replays.proofs.Events.{one_more}
use Rattle.trail_call.specs.Input.{longest_log}

-- the bytes of so many events, and of one more
abbrev room : ℕ → ℕ
room zero = 4
room (suc m) = suc (suc (suc (suc (room m))))

module _ (t : Study) where
  -- an event, whatever comes behind it, if what comes behind it comes to the same; or if it is one too many
  same_behind :
      (p : Progress) (at tick i : ℕ) (rest rest' : Log)
      → replay_on t (seen p (action_at t.actions i) tick (step_at at p.last tick)) (at + event_length) rest
      ≡ replay_on t (seen p (action_at t.actions i) tick (step_at at p.last tick)) (at + event_length) rest'
      → replay_on t p at (event tick i rest) ≡ replay_on t p at (event tick i rest')
  unfolding replay_on
  same_behind p at tick i rest rest' same =
      ap (λ (x : Replayed).
      pick (leb most_events (p.done + p.held)) (stops (refusal 19 at))
      (pick (leb (length t.actions) i) (stops (refusal 14 at))
      (pick (in_force t.situation (action_at t.actions i))
      (pick (leb went_back_lem (step_at at p.last tick)) (stops (refusal 23 at)) x)
      (stops (refusal 20 at))))) same

  too_many :
      (p : Progress) (at tick i : ℕ) (rest : Log) → most_events ≤ p.done + p.held
      → replay_on t p at (event tick i rest) ≡ stops (refusal 19 at)
  unfolding replay_on
  too_many p at tick i rest full = rw (le-leb most_events (p.done + p.held) full) refl

  -- where so many events more may come
  decided :
      (m : ℕ) (p : Progress) (at : ℕ) (log : List ℕ) → p.done + p.held + m ≡ most_events
      → replay_on t p at (log_of (take (room m) log)) ≡ replay_on t p at (log_of log)
  unfolding log_of
  decided zero p at [] e = refl
  decided zero p at (kind ∷ []) e = refl
  decided zero p at (kind ∷ high ∷ []) e = refl
  decided zero p at (kind ∷ high ∷ low ∷ []) e = refl
  decided zero p at (kind ∷ high ∷ low ∷ action ∷ rest) e = from (eqb kind event_kind)
    where
      from :
          (b : Bool) → replay_on t p at (pick b (event (256 * high + low) action (log_of [])) other)
          ≡ replay_on t p at (pick b (event (256 * high + low) action (log_of rest)) other)
      from true =
          too_many p at (256 * high + low) action (log_of []) (omega (arith, e))
          ∙ sym (too_many p at (256 * high + low) action (log_of rest) (omega (arith, e)))
      from false = refl
  decided (suc m) p at [] e = refl
  decided (suc m) p at (kind ∷ []) e = refl
  decided (suc m) p at (kind ∷ high ∷ []) e = refl
  decided (suc m) p at (kind ∷ high ∷ low ∷ []) e = refl
  decided (suc m) p at (kind ∷ high ∷ low ∷ action ∷ rest) e =
      let tick = 256 * high + low in
      let a = action_at t.actions action in
      let step = step_at at p.last tick in
      from (eqb kind event_kind)
      (same_behind p at tick action (log_of (take (room m) rest)) (log_of rest)
      (decided m (seen p a tick step) (at + event_length) rest (omega (arith, e, one_more p a tick step))))
    where
      from :
          (b : Bool)
          → replay_on t p at (event (256 * high + low) action (log_of (take (room m) rest)))
          ≡ replay_on t p at (event (256 * high + low) action (log_of rest))
          → replay_on t p at (pick b (event (256 * high + low) action (log_of (take (room m) rest))) other)
          ≡ replay_on t p at (pick b (event (256 * high + low) action (log_of rest)) other)
      from true same = same
      from false same = refl

pub cut_log : (said : Said Study) (log : List ℕ) → replayed said (take longest_log log) ≡ replayed said log
unfolding replayed
cut_log (says t) log = decided t most_events (at_start t) 0 log refl
cut_log (refused number place) log = refl
