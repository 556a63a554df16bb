-- One event more of a replay, and the end of the log.
-- Assumes nothing.
use Rattle.std.proofs.Common.{◌≡◌, ℕ, ◌+◌, ◌-◌, ◌*◌, ◌/◌, ◌<◌, ◌≤◌, List, length, refl, ap, arith}
use mir.Val.{bool_byte}
use Rattle.std.specs.Prelude.{Option, None, Some, Ok, is_some}
use Rattle.study.specs.Study.{Study}
use Rattle.plans.specs.Plans.{start_state}
use Rattle.replays.specs.Replay.{Progress}
use Rattle.tables.specs.Rows.{Row}
use Rattle.barring.specs.declared.Want.{Want}
use Rattle.barring.specs.Telling.{Ready, shown}
use Rattle.occupant.specs.declared.Occupant.{Occupant}
use Rattle.following.specs.declared.looking.Event.{Event}
use Rattle.following.specs.Following.{held_of, Sound, Looks, Takes, Reached}
use Rattle.following.proofs.Halfway.{Halfway, held_most, goes_on, ends}

-- where a replay stands whose log was followed up to a place
pub record Turn (file : List ℕ) (actions : ℕ) (acts : List Row) (log first : List ℕ) (at : ℕ) (one : Occupant) (held last : ℕ) (table : List ℕ) : Type 0 where
  pub early : at < 65540
  pub inside : at ≤ length log
  pub sum : one.sum ≤ 8192 * at
  pub few : 4 * held ≤ at
  pub halfway : (t : Study) → Ready file actions acts t → length first ≡ 32 → shown t first ≡ start_state t → Halfway t log at one held last table

held_as_byte : (lack : Option Want) → bool_byte (is_some lack) ≡ held_of lack
held_as_byte None = refl
held_as_byte (Some w) = refl

module _
    {file : List ℕ} {actions : ℕ} {acts : List Row} {log first : List ℕ} {at : ℕ} {one : Occupant} {held last : ℕ} {table : List ℕ}
    (turn : Turn file actions acts log first at one held last table)
  where
    pub turned :
        (e : Event) → Sound log at actions (Ok e)
        → ((file : List ℕ) (t : Study) (p : Progress) → Ready file actions acts t → at ≡ 4 * (p.done + p.held) → last ≡ p.last → Looks t p log at (Ok e))
        → (lack : Option Want) {table' : List ℕ}
        → ((t : Study) (actions : ℕ) → Ready file actions acts t → e.action < actions → length table ≡ 32 → Takes t e.action table table' lack)
        → Turn file actions acts log first (at + 4) (record { stance = lack; sum = one.sum + e.step }) (held + bool_byte (is_some lack)) e.tick table'
    turned e sound looks lack takes =
        rw (held_as_byte lack)
        (record {
          early = omega (arith, sound.1);
          inside = omega (arith, sound.0);
          sum = omega (arith, turn.sum, sound.3);
          few = omega (arith, turn.few, held_most lack);
          halfway = λ t ready long starts.
              let h = turn.halfway t ready long starts in
              goes_on h e (looks file t h.progress ready h.place h.last_is) (takes t actions ready sound.2 h.shows.long);
        })

    -- the log is at its end
    module _ (all : length log ≤ at) where
      pub held_few : held ≤ length log / 4
      held_few = omega (arith, turn.few, turn.inside)

      pub followed :
          (t : Study) → Ready file actions acts t → length first ≡ 32 → shown t first ≡ start_state t
          → Reached t log table one (length log / 4 - held) held
      followed t ready long starts =
          let at-end : at ≡ length log = omega (arith, turn.inside) in
          ends (turn.halfway t ready long starts) all (omega (arith, turn.early, turn.sum)) (ap (λ (n : ℕ). n / 4 - held) (omega (arith, at-end)))
