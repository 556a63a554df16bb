-- Each thing that stands at a place of a log, as the tests find it, is what the definition does there.
-- Assumes nothing.
use Rattle.std.proofs.Common.{◌≡◌, ℕ, ◌+◌, ◌*◌, ◌<◌, ◌≤◌, true, false, eqb, ◌≢◌, List, length, get_or, drop, sym, refl, ◌∙◌, inl, arith}
use borrow.Author.Tests.{lt-leb}
use Rattle.std.specs.Prelude.{Result, Ok, Err}
use Rattle.answer.specs.Answers.{number_of}
use Rattle.answer.specs.declared.Refusal.{Refusal}
use Rattle.answer.specs.declared.Rule.{Rule}
use Rattle.answer.specs.declared.Rule.TheVariants as Rule-of
use Rattle.following.specs.declared.looking.Event.{Event}
use Rattle.study.specs.Study.{Study}
use Rattle.plans.specs.Plans.{Usable}
use Rattle.tables.specs.Rows.{Row, out_column}
use Rattle.replays.specs.Log.{Log, event, event_kind, event_length, most_events, log_of}
use Rattle.replays.specs.Replay.{Progress, step_at, went_back_lem, replay_on}
use Rattle.replays.proofs.Refusals.{Refuses, too_many, no_action_lem, out_of_force, went_back, stops_exactly}
use Rattle.replays.proofs.Places.{event_at, cut_at, other_at}
use Rattle.barring.specs.Telling.{Ready}
use Rattle.following.specs.Following.{Looks}

module _ (t : Study) (p : Progress) (log : List ℕ) (at : ℕ) (some : at < length log) where
  -- the place is refused for this rule
  abbrev gone : Rule → Result Event Refusal
  gone rule = Err (record { rule = rule; place = at })

  pub looks_2 : get_or log at 0 ≢ event_kind → Looks t p log at (gone Rule-of.NoKind)
  unfolding replay_on
  looks_2 o = rw (other_at log at some o)

  module _ (kind : get_or log at 0 ≡ event_kind) where
    pub looks_1 : length log < at + event_length → Looks t p log at (gone Rule-of.Cut)
    unfolding replay_on
    looks_1 h = rw (cut_at log at some h kind)

    -- the event is whole
    module _ (whole : at + event_length ≤ length log) (place : at ≡ 4 * (p.done + p.held)) where
      abbrev tick : ℕ
      tick = 256 * get_or log (at + 1) 0 + get_or log (at + 2) 0

      abbrev action : ℕ
      action = get_or log (at + 3) 0

      abbrev rest : Log
      rest = log_of (drop (at + event_length) log)

      refused_by : (rule : Rule) → Refuses t p at tick action (number_of rule) → Looks t p log at (gone rule)
      refused_by rule r = rw (event_at log at whole kind) ((stops_exactly t p at (event tick action rest) (number_of rule) at).1 (inl (r, refl)))

      pub looks_19 : 65536 ≤ at → Looks t p log at (gone Rule-of.WrongCount)
      looks_19 h = refused_by Rule-of.WrongCount (too_many (omega arith))

      module _ (early : at < 65536) {file : List ℕ} {actions : ℕ} {acts : List Row} (ready : Ready file actions acts t) where
        few : p.done + p.held < most_events
        few = omega arith

        pub looks_14 : actions ≤ action → Looks t p log at (gone Rule-of.NoAction)
        looks_14 h = refused_by Rule-of.NoAction (no_action_lem few (omega (arith, ready.count)))

        module _ (there : action < actions) where
          pub looks_20 : eqb (get_or (out_column acts) action 0) 0 ≡ false → Looks t p log at (gone Rule-of.OutOfForce)
          looks_20 out = refused_by Rule-of.OutOfForce (out_of_force few (omega (arith, ready.count)) (sym (ready.force action there) ∙ out))

          module _ (force : eqb (get_or (out_column acts) action 0) 0 ≡ true) where
            usable : Usable t action
            usable = record { there = omega (arith, ready.count); in_force_lem = sym (ready.force action there) ∙ force }

            module _ {last step : ℕ} (last_is : last ≡ p.last) (step_is : step ≡ step_at at last tick) where
              step_there : step ≡ step_at at p.last tick
              step_there = rw (← last_is) step_is

              pub looks_23 : went_back_lem ≤ step → Looks t p log at (gone Rule-of.WentBack)
              looks_23 h = refused_by Rule-of.WentBack (went_back few usable (omega (arith, step_there)))

              pub looks_on : step < went_back_lem → {tick' : ℕ} → tick' ≡ tick → Looks t p log at (Ok (record { action = action; tick = tick'; step = step }))
              unfolding replay_on
              looks_on h e =
                  let forth : step_at at p.last tick < went_back_lem = omega (arith, step_there) in
                  rw (
                    event_at log at whole kind,
                    e,
                    step_there,
                    lt-leb most_events (p.done + p.held) few,
                    lt-leb (length t.actions) action usable.there,
                    usable.in_force_lem,
                    lt-leb went_back_lem (step_at at p.last tick) forth,
                  )
