-- How a run comes out: it ends in a state, and then the list may be done to there, takes no value again and reaches the goal; or it stops where a rule says.
-- Assumes nothing.
use mathlib.Core.Path.{refl}
use mathlib.Core.Bool.{Bool, true, false}
use mathlib.Core.List.{List, [], ◌∷◌}
use Prim.Native.Nat.{ℕ, ◌+◌}
use native.Mathlib.Omega.{arith}
use lib.Dec.{leb}
use lib.ListN.{length}
use borrow.Author.Tests.{leb-true, leb-false}
use Rattle.plain.specs.Choose.{pick}
use Rattle.plain.proofs.Tests.{picked}
use Rattle.answer.specs.Answers.{three}
use Rattle.study.specs.Study.{Action, Study, in_force, action_at}
use Rattle.plans.specs.Plans.{State, after, May, Usable, Runs, Reached, NeverHeld, NoneAgain}
use Rattle.runs.specs.Run.{Ran, ends_in, stops, Failing, none, fails, barred, held, away, at_goal, stepped, run_on}
use Rattle.runs.proofs.First.{Found}
use Rattle.runs.proofs.Stops.{AtGoal, Refuses, no_action_lem, out_of_force, may_not, held_before, goal_missed, StopsAt}
use Rattle.runs.proofs.Searches.{BarredBy, barred_by_lem, HeldSays, held_says, goal_found}

abbrev pub Outcome : Study → List State → State → ℕ → List ℕ → Ran → Type 0
Outcome t past s k list (ends_in e) = Runs t s list e × NoneAgain t past s list × Reached t e
Outcome t past s k list (stops a) = StopsAt t past s k list a.number a.first a.second

module _ (t : Study) (past : List State) (s : State) (k : ℕ) where
  stops_here : (list : List ℕ) {n x y : ℕ} → Refuses t past s k list n x y → StopsAt t past s k list n x y
  stops_here list r =
      record { front = []; rest = list; parts = refl; state = s; runs = refl; none_again = tt; step = k; counted = omega arith; refuses = r }

  at_end_lem : (f : Failing) → Found (AtGoal t s) (length t.tasks) (λ v. v) f → Outcome t past s k [] (at_goal s f)
  at_end_lem none found = (refl, tt, found)
  at_end_lem (fails v) (w, first, e) = stops_here [] (goal_missed (rw e first))

  module _ (i : ℕ) (rest : List ℕ) (usable : Usable t i) where
    abbrev doing : Action
    doing = action_at t.actions i

    onward :
        May s doing → NeverHeld (s ∷ past) doing.var doing.post
        → (r : Ran) → Outcome t (s ∷ past) (after s doing) (k + 1) rest r → Outcome t past s k (i ∷ rest) r
    onward may never (ends_in e) (runs, none_again, reached) = ((usable, may, runs), (never, none_again), reached)
    onward may never (stops a) at =
        record {
          front = i ∷ at.front;
          rest = at.rest;
          parts = rw at.parts;
          state = at.state;
          runs = (usable, may, at.runs);
          none_again = (never, at.none_again);
          step = at.step;
          counted = omega (arith, at.counted);
          refuses = at.refuses;
        }

    at_step :
        (r : Ran) → Outcome t (s ∷ past) (after s doing) (k + 1) rest r
        → (f : Failing) → BarredBy s doing f → Outcome t past s k (i ∷ rest) (stepped past s doing k f r)
    at_step r o (fails v) bars = stops_here (i ∷ rest) (may_not usable bars)
    at_step r o none may = from (held (s ∷ past) doing.var doing.post) (held_says (s ∷ past) doing.var doing.post)
      where
        from : (b : Bool) → HeldSays (s ∷ past) doing.var doing.post b → Outcome t past s k (i ∷ rest) (pick b (stops (three 16 k doing.var)) r)
        from true h = stops_here (i ∷ rest) (held_before usable may h)
        from false n = onward may n r o

pub outcome : (t : Study) (past : List State) (s : State) (k : ℕ) (list : List ℕ) → Outcome t past s k list (run_on t past s k list)
unfolding run_on
outcome t past s k [] = at_end_lem t past s k (away s 0 t.tasks) (goal_found t s)
outcome t past s k (i ∷ rest) =
    let a = action_at t.actions i in
    picked (Outcome t past s k (i ∷ rest)) (leb (length t.actions) i)
    (λ e. stops_here t past s k (i ∷ rest) (no_action_lem (leb-true (length t.actions) i e)))
    λ e.
    picked (Outcome t past s k (i ∷ rest)) (in_force t.situation a)
    (λ f.
    at_step t past s k i rest (record { there = leb-false (length t.actions) i e; in_force_lem = f })
    (run_on t (s ∷ past) (after s a) (k + 1) rest) (outcome t (s ∷ past) (after s a) (k + 1) rest) (barred s a) (barred_by_lem s a))
    λ f. stops_here t past s k (i ∷ rest) (out_of_force (leb-false (length t.actions) i e) f)
