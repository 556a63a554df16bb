-- A replay that stands at a place: what is left of the log, from here, gives what all of it gives from the start.
-- Assumes nothing.
use Rattle.std.proofs.Common.{◌≡◌, ℕ, ◌+◌, ◌-◌, ◌*◌, ◌/◌, ◌<◌, ◌≤◌, List, length, drop, refl, ap, ◌∙◌, arith}
use Rattle.std.specs.Prelude.{Option, None, Some, Ok, Err}
use Rattle.answer.specs.Answers.{refused}
use Rattle.answer.specs.declared.Refusal.{Refusal}
use Rattle.study.specs.Study.{Study, action_at}
use Rattle.plans.specs.Plans.{start_state}
use Rattle.replays.specs.Log.{log_of}
use Rattle.replays.specs.Replay as Replay
use Rattle.replays.specs.Replay.{idle, waits_for, Progress, at_start, lacks, seen, held_by, comes_to, stops, replay_on}
use Rattle.replays.proofs.Events.{one_more}
use Rattle.replays.proofs.Places.{ended_at}
use Rattle.barring.specs.declared.Want.{Want}
use Rattle.barring.specs.Stances.{stance_of}
use Rattle.barring.specs.Telling.{shown}
use Rattle.occupant.specs.declared.Occupant.{Occupant}
use Rattle.following.specs.declared.looking.Event.{Event}
use Rattle.following.specs.Following.{held_of, Looks, Takes, Shows, Reached}

pub record Halfway (t : Study) (log : List ℕ) (at : ℕ) (one : Occupant) (held last : ℕ) (table : List ℕ) : Type 0 where
  pub progress : Progress
  pub replays : replay_on t (at_start t) 0 (log_of log) ≡ replay_on t progress at (log_of (drop at log))
  pub place : at ≡ 4 * (progress.done + progress.held)
  pub shows : Shows t progress one table
  pub held_is : held ≡ progress.held
  pub last_is : last ≡ progress.last

pub begins :
    (t : Study) (log : List ℕ) {table : List ℕ} → length table ≡ 32 → shown t table ≡ start_state t
    → Halfway t log 0 (record { stance = None; sum = 0 }) 0 0 table
begins t log long starts =
    record {
      progress = at_start t;
      replays = refl;
      place = refl;
      shows = record { stance = refl; sum = refl; state = starts; long = long };
      held_is = refl;
      last_is = refl;
    }

pub held_most : (f : Option Want) → held_of f ≤ 1
held_most None = omega arith
held_most (Some w) = omega arith

held_of_lem : (f : Replay.Stance) → held_of (stance_of f) ≡ held_by f
held_of_lem idle = refl
held_of_lem (waits_for v q) = refl

module _ {t : Study} {log : List ℕ} {at : ℕ} {one : Occupant} {held last : ℕ} {table : List ℕ} (h : Halfway t log at one held last table) where
  pub refuses : (r : Refusal) → Looks t h.progress log at (Err r) → replay_on t (at_start t) 0 (log_of log) ≡ stops (refused r)
  refuses r looks = h.replays ∙ looks

  pub goes_on :
      (e : Event) → Looks t h.progress log at (Ok e)
      → {table' : List ℕ} {lack : Option Want} → Takes t e.action table table' lack
      → Halfway t log (at + 4) (record { stance = lack; sum = one.sum + e.step }) (held + held_of lack) e.tick table'
  goes_on e looks {table'} {lack} takes =
      let p = h.progress in
      let a = action_at t.actions e.action in
      let same : lacks (shown t table) a ≡ lacks p.occupant.state a = rw h.shows.state in
      let lack-is : lack ≡ stance_of (lacks p.occupant.state a) = takes.stance ∙ ap stance_of same in
      record {
        progress = seen p a e.tick e.step;
        replays = h.replays ∙ looks;
        place = omega (arith, h.place, one_more p a e.tick e.step);
        shows = record { stance = lack-is; sum = rw h.shows.sum; state = rw (← h.shows.state) takes.state; long = takes.long };
        held_is = rw (h.held_is, lack-is, held_of_lem (lacks p.occupant.state a));
        last_is = refl;
      }

  pub ends :
      length log ≤ at → one.sum < 4294967296 → {done : ℕ} → done ≡ at / 4 - held → Reached t log table one done held
  unfolding replay_on
  ends all fits e =
      record {
        end = h.progress;
        comes = h.replays ∙ (rw (ended_at log at all));
        shows = h.shows;
        done_is = omega (arith, h.place, h.held_is, e);
        held_is = h.held_is;
        fits = fits;
      }
