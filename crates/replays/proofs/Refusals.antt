-- Where a replay stops: each refusal (2, 1, 19, 14, 20, 23) by its rule, at the place of its event, once the file and the crew are not refused.
-- Assumes nothing.
use mathlib.Core.Path.{◌≡◌, refl, sym, subst}
use mathlib.Core.Logic.{◌⊎◌, inl, inr, ◌↔◌}
use mathlib.Core.Bool.{false}
use mathlib.Core.List.{List}
use Prim.Native.Nat.{ℕ, ◌+◌, ◌≤◌, ◌<◌}
use lib.Dec.{leb}
use lib.ListN.{length}
use borrow.Author.Tests.{leb-true, leb-false, le-leb, lt-leb}
use Rattle.plain.proofs.Tests.{picked}
use Rattle.answer.specs.Answers.{refusal}
use Rattle.answer.specs.declared.Answer.{Answer}
use Rattle.study.specs.Study.{Study, in_force, action_at}
use Rattle.study.specs.Reading.{says, refused}
use Rattle.plans.specs.Plans.{Usable}
use Rattle.replays.specs.Log.{Log, event, ended, cut, other, most_events, event_length, log_of}
use Rattle.replays.specs.Replay.{Progress, at_start, seen, step_at, went_back_lem, Replayed, comes_to, stops, replay_on, replayed}

-- an event with its tick and its action, at a place, is refused with this number
pub data Refuses (t : Study) (p : Progress) (at tick i : ℕ) : ℕ → Type 0 where
  too_many : most_events ≤ p.done + p.held → Refuses t p at tick i 19
  no_action_lem : p.done + p.held < most_events → length t.actions ≤ i → Refuses t p at tick i 14
  out_of_force :
      p.done + p.held < most_events → i < length t.actions → in_force t.situation (action_at t.actions i) ≡ false
      → Refuses t p at tick i 20
  went_back : p.done + p.held < most_events → Usable t i → went_back_lem ≤ step_at at p.last tick → Refuses t p at tick i 23

-- from a place on, some events are replayed, and what comes next is refused with this number at this place
abbrev pub StopsAt : Study → Progress → ℕ → Log → ℕ → ℕ → Type 0
StopsAt t p at ended number place = ⊥
StopsAt t p at other number place = (number ≡ 2) × (place ≡ at)
StopsAt t p at cut number place = (number ≡ 1) × (place ≡ at)
StopsAt t p at (event tick i rest) number place =
    (Refuses t p at tick i number × (place ≡ at))
    ⊎ ((p.done + p.held < most_events) × Usable t i × (step_at at p.last tick < went_back_lem)
    × StopsAt t (seen p (action_at t.actions i) tick (step_at at p.last tick)) (at + event_length) rest number place)

-- a refusal, and the rule that it stands on
pub record Refused (t : Study) (p : Progress) (at : ℕ) (log : Log) (a : Answer) : Type 0 where
  pub number : ℕ
  pub place : ℕ
  pub answer : a ≡ refusal number place
  pub rule : StopsAt t p at log number place

abbrev Stopped : Study → Progress → ℕ → Log → Replayed → Type 0
Stopped t p at log (comes_to end) = Unit {0}
Stopped t p at log (stops a) = Refused t p at log a

stopped : (t : Study) (p : Progress) (at : ℕ) (log : Log) → Stopped t p at log (replay_on t p at log)
unfolding replay_on
stopped t p at ended = tt
stopped t p at cut = record { number = 1; place = at; answer = refl; rule = (refl, refl) }
stopped t p at other = record { number = 2; place = at; answer = refl; rule = (refl, refl) }
stopped t p at (event tick i rest) =
    let step = step_at at p.last tick in
    let a = action_at t.actions i in
    picked (Stopped t p at (event tick i rest)) (leb most_events (p.done + p.held))
    (λ e. now 19 (too_many (leb-true most_events (p.done + p.held) e)))
    λ e.
    let few = leb-false most_events (p.done + p.held) e in
    picked (Stopped t p at (event tick i rest)) (leb (length t.actions) i)
    (λ e. now 14 (no_action_lem few (leb-true (length t.actions) i e)))
    λ e.
    let there = leb-false (length t.actions) i e in
    picked (Stopped t p at (event tick i rest)) (in_force t.situation a)
    (λ force.
    let usable : Usable t i = record { there = there; in_force_lem = force } in
    picked (Stopped t p at (event tick i rest)) (leb went_back_lem step)
    (λ e. now 23 (went_back few usable (leb-true went_back_lem step e)))
    λ e.
    more few usable (leb-false went_back_lem step e)
    (replay_on t (seen p a tick step) (at + event_length) rest) (stopped t (seen p a tick step) (at + event_length) rest))
    λ force. now 20 (out_of_force few there force)
  where
    now : (number : ℕ) → Refuses t p at tick i number → Refused t p at (event tick i rest) (refusal number at)
    now number r = record { number = number; place = at; answer = refl; rule = inl (r, refl) }

    more :
        p.done + p.held < most_events → Usable t i → step_at at p.last tick < went_back_lem
        → (r : Replayed) → Stopped t (seen p (action_at t.actions i) tick (step_at at p.last tick)) (at + event_length) rest r
        → Stopped t p at (event tick i rest) r
    more few usable forth (comes_to end) s = tt
    more few usable forth (stops a) s = record { number = s.number; place = s.place; answer = s.answer; rule = inr (few, usable, forth, s.rule) }

refuses_stops :
    (t : Study) (p : Progress) (at tick i : ℕ) (rest : Log) (number : ℕ) → Refuses t p at tick i number
    → replay_on t p at (event tick i rest) ≡ stops (refusal number at)
unfolding replay_on
refuses_stops t p at tick i rest number (too_many h) = rw (le-leb most_events (p.done + p.held) h)
refuses_stops t p at tick i rest number (no_action_lem few h) = rw (lt-leb most_events (p.done + p.held) few, le-leb (length t.actions) i h)
refuses_stops t p at tick i rest number (out_of_force few there o) =
    rw (lt-leb most_events (p.done + p.held) few, lt-leb (length t.actions) i there, o)
refuses_stops t p at tick i rest number (went_back few usable h) =
    let step = step_at at p.last tick in
    rw (lt-leb most_events (p.done + p.held) few, lt-leb (length t.actions) i usable.there, usable.in_force_lem, le-leb went_back_lem step h)

rule_stops :
    (t : Study) (p : Progress) (at : ℕ) (log : Log) (number place : ℕ) → StopsAt t p at log number place
    → replay_on t p at log ≡ stops (refusal number place)
unfolding replay_on
rule_stops t p at ended number place s = absurd s
rule_stops t p at other number place (n, l) = rw (n, l)
rule_stops t p at cut number place (n, l) = rw (n, l)
rule_stops t p at (event tick i rest) number place (inl (r, l)) = rw l (refuses_stops t p at tick i rest number r)
rule_stops t p at (event tick i rest) number place (inr (few, usable, forth, s)) =
    let step = step_at at p.last tick in
    rw (lt-leb most_events (p.done + p.held) few, lt-leb (length t.actions) i usable.there, usable.in_force_lem, lt-leb went_back_lem step forth)
    (rule_stops t (seen p (action_at t.actions i) tick step) (at + event_length) rest number place s)

-- a replay stops with a number and a place exactly by a rule
pub stops_exactly :
    (t : Study) (p : Progress) (at : ℕ) (log : Log) (number place : ℕ)
    → (replay_on t p at log ≡ stops (refusal number place)) ↔ StopsAt t p at log number place
stops_exactly t p at log number place = (from, rule_stops t p at log number place)
  where
    from : replay_on t p at log ≡ stops (refusal number place) → StopsAt t p at log number place
    from e =
        let s = subst (Stopped t p at log) e (stopped t p at log) in
        subst (λ (b : Answer). StopsAt t p at log b.number b.first) (sym s.answer) s.rule

-- the file's refusals and the crew's come first
pub replayed-refused : (number place : ℕ) (log : List ℕ) → replayed (refused number place) log ≡ stops (refusal number place)
unfolding replayed
replayed-refused number place log = refl

pub replayed_stops :
    (t : Study) (log : List ℕ) (number place : ℕ)
    → (replayed (says t) log ≡ stops (refusal number place)) ↔ StopsAt t (at_start t) 0 (log_of log) number place
unfolding replayed
replayed_stops t log = stops_exactly t (at_start t) 0 (log_of log)
