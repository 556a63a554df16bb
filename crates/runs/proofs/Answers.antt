-- What running a list on a study answers: 13 exactly if the buffer is too short, 0 exactly on straight plans, 14 to 17 and 20 exactly where their rules say.
-- Assumes nothing.
use mathlib.Core.Path.{◌≡◌, refl, sym, ap, subst, ◌∙◌}
use mathlib.Core.Logic.Iff
use mathlib.Core.Logic.{◌≢◌, ◌↔◌}
use mathlib.Core.Bool.{false}
use mathlib.Core.List.{List, [], ◌∷◌}
use Prim.Native.Nat.{ℕ, ◌≤◌, ◌<◌}
use native.Mathlib.Omega.{arith}
use native.Mathlib.Decide.{dec_lt}
use lib.ListN.{length}
use borrow.Author.Tests.{lt-ltb, le-ltb}
use Rattle.answer.specs.declared.Answer.{Answer}
use Rattle.answer.specs.Answers.{three, done, refusal}
use Rattle.study.specs.Study.{Study, in_force, action_at}
use Rattle.study.specs.Reading.{says, refused}
use Rattle.lawful.specs.Lawful.{Lawful}
use Rattle.plans.specs.Plans.{State, start_state, StraightPlan}
use Rattle.plans.proofs.States.{start-length}
use Rattle.plans.proofs.Running.{runs_length}
use Rattle.runs.specs.Run.{Ran, ends_in, stops, run_on, ran, run_answer}
use Rattle.runs.proofs.Stops.{Refuses, no_action_lem, out_of_force, may_not, held_before, goal_missed, StopsAt, OutOfForceAt}
use Rattle.runs.proofs.Outcomes.{Outcome, outcome}
use Rattle.runs.proofs.Exact.{ends_exactly, stops_exactly}

-- a refused file is refused with its own answer
pub ran-refused : (number place room : ℕ) (list : List ℕ) → ran (refused number place) room list ≡ stops (refusal number place)
unfolding ran
ran-refused number place room list = refl

pub ran-short : (t : Study) (room : ℕ) (list : List ℕ) → room < length t.counts → ran (says t) room list ≡ stops (refusal 13 (length t.counts))
unfolding ran
ran-short t room list h = rw (lt-ltb room (length t.counts) h)

pub ran_fits : (t : Study) (room : ℕ) (list : List ℕ) → length t.counts ≤ room → ran (says t) room list ≡ run_on t [] (start_state t) 0 list
unfolding ran
ran_fits t room list h = rw (le-ltb room (length t.counts) h)

-- 14 to 17, or 20
abbrev pub NumberOfAStop : ℕ → Type 0
NumberOfAStop n = (14 ≤ n) × (n ≤ 20) × (n ≢ 18) × (n ≢ 19)

refused-number :
    (t : Study) (past : List State) (s : State) (k : ℕ) (list : List ℕ) (n x y : ℕ) → Refuses t past s k list n x y → NumberOfAStop n
refused-number t past s k list n x y (no_action_lem h) = omega arith
refused-number t past s k list n x y (out_of_force h o) = omega arith
refused-number t past s k list n x y (may_not usable bars) = omega arith
refused-number t past s k list n x y (held_before usable may h) = omega arith
refused-number t past s k list n x y (goal_missed first) = omega arith

pub stop_number :
    (t : Study) (past : List State) (s : State) (k : ℕ) (list : List ℕ) (n x y : ℕ) → StopsAt t past s k list n x y → NumberOfAStop n
stop_number t past s k list n x y at = refused-number t _ _ _ _ n x y at.refuses

-- what holds of a run's outcome, whatever it is, holds of what was run
by_outcome :
    (t : Study) (room : ℕ) (list : List ℕ) → length t.counts ≤ room
    → (P : Ran → Type 0) → ((r : Ran) → Outcome t [] (start_state t) 0 list r → P r) → P (ran (says t) room list)
by_outcome t room list h P f = rw (ran_fits t room list h) (f (run_on t [] (start_state t) 0 list) (outcome t [] (start_state t) 0 list))

pub answer_13_short : (t : Study) (room : ℕ) (list : List ℕ) → ((run_answer (ran (says t) room list)).number ≡ 13) ↔ (room < length t.counts)
answer_13_short t room list = (λ e. from e (dec_lt room (length t.counts)), λ h. rw (ran-short t room list h))
  where
    other : (r : Ran) → Outcome t [] (start_state t) 0 list r → (run_answer r).number ≢ 13
    other (ends_in e) o z = omega arith
    other (stops a) at z = omega (arith, stop_number t _ _ _ _ a.number a.first a.second at)

    from : (run_answer (ran (says t) room list)).number ≡ 13 → Dec (room < length t.counts) → room < length t.counts
    from e (yes h) = h
    from e (no h) = absurd (by_outcome t room list (omega arith) (λ r. (run_answer r).number ≢ 13) other e)

module _ (t : Study) (room : ℕ) (list : List ℕ) (fits : length t.counts ≤ room) where
  pub straight_ends : (p : StraightPlan t list) → ran (says t) room list ≡ ends_in p.plan.end
  straight_ends p =
      ran_fits t room list fits
      ∙ (ends_exactly t [] (start_state t) 0 list p.plan.end).1 (p.plan.runs, p.none_again, p.plan.reached)

  -- .. and the answer's first number is that of the variables
  pub straight_answer : Lawful t → StraightPlan t list → run_answer (ran (says t) room list) ≡ done (length t.counts) 0
  straight_answer lawful p =
      rw (straight_ends p)
      (ap (λ (n : ℕ). done n 0) (runs_length t (start_state t) list p.plan.end p.plan.runs ∙ start-length t ∙ lawful.a_task_each))

  pub answer_0_straight : ((run_answer (ran (says t) room list)).number ≡ 0) ↔ StraightPlan t list
  answer_0_straight = (by_outcome t room list fits (λ r. (run_answer r).number ≡ 0 → StraightPlan t list) from, λ p. rw (straight_ends p))
    where
      from : (r : Ran) → Outcome t [] (start_state t) 0 list r → (run_answer r).number ≡ 0 → StraightPlan t list
      from (ends_in e) (runs, none_again, reached) z = record { plan = record { end = e; runs = runs; reached = reached }; none_again = none_again }
      from (stops a) at z = absurd (omega (arith, stop_number t _ _ _ _ a.number a.first a.second at))

  pub answer_stops : (n x y : ℕ) → n ≢ 0 → (run_answer (ran (says t) room list) ≡ three n x y) ↔ StopsAt t [] (start_state t) 0 list n x y
  answer_stops n x y o = (
    by_outcome t room list fits (λ r. run_answer r ≡ three n x y → StopsAt t [] (start_state t) 0 list n x y) from,
    λ at. rw (ran_fits t room list fits ∙ (stops_exactly t [] (start_state t) 0 list n x y).1 at),
  )
    where
      from : (r : Ran) → Outcome t [] (start_state t) 0 list r → run_answer r ≡ three n x y → StopsAt t [] (start_state t) 0 list n x y
      from (ends_in e) out z = absurd (o (sym (ap (λ (a : Answer). a.number) z)))
      from (stops a) at z = subst (λ (b : Answer). StopsAt t [] (start_state t) 0 list b.number b.first b.second) z at

  -- 20 exactly where a step names an action out of force, with the step's index
  pub answer_20_out_of_force : (k : ℕ) → (run_answer (ran (says t) room list) ≡ refusal 20 k) ↔ OutOfForceAt t list k
  answer_20_out_of_force k = Iff.trans (answer_stops 20 k 0 (λ e. omega arith)) (out, stopped)
    where
      refused_out :
          {past : List State} {s : State} {step : ℕ} {rest : List ℕ} {n x y : ℕ} → Refuses t past s step rest n x y → n ≡ 20
          → (i : ℕ) × (more : List ℕ) × (rest ≡ i ∷ more) × (x ≡ step) × (i < length t.actions) × (in_force t.situation (action_at t.actions i) ≡ false)
      refused_out (no_action_lem h) e = absurd (omega arith)
      refused_out (out_of_force {i} {rest} h o) e = (i, rest, refl, refl, h, o)
      refused_out (may_not usable bars) e = absurd (omega arith)
      refused_out (held_before usable may h) e = absurd (omega arith)
      refused_out (goal_missed first) e = absurd (omega arith)

      out : StopsAt t [] (start_state t) 0 list 20 k 0 → OutOfForceAt t list k
      out at =
          let (i, more, f, g, there, o) = refused_out at.refuses refl in
          record {
            front = at.front;
            action = i;
            rest = more;
            parts = rw f at at.parts;
            counted = omega (arith, at.counted);
            state = at.state;
            runs = at.runs;
            none_again = at.none_again;
            there = there;
            out = o;
          }

      stopped : OutOfForceAt t list k → StopsAt t [] (start_state t) 0 list 20 k 0
      stopped o = record {
        front = o.front;
        rest = o.action ∷ o.rest;
        parts = o.parts;
        state = o.state;
        runs = o.runs;
        none_again = o.none_again;
        step = k;
        counted = omega (arith, o.counted);
        refuses = out_of_force o.there o.out;
      }
