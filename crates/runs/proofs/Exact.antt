-- A run ends in a state, or stops with an answer, exactly where document 01 says.
-- Assumes nothing.
use mathlib.Core.Path.{◌≡◌, refl, subst, ◌∙◌}
use mathlib.Core.Logic.{◌↔◌}
use mathlib.Core.List.{List, [], ◌∷◌, ◌++◌, append-nil}
use Prim.Native.Nat.{ℕ, ◌+◌}
use native.Mathlib.Omega.{arith}
use lib.ListN.{length}
use borrow.Author.Tests.{lt-leb, le-leb}
use Rattle.answer.specs.Answers.{three}
use Rattle.study.specs.Study.{Study, action_at}
use Rattle.plans.specs.Plans.{State, after, May, Usable, Runs, Reached, NeverHeld, NoneAgain}
use Rattle.plans.proofs.Again.{past_of}
use Rattle.runs.specs.Run.{Ran, ends_in, stops, away, run_on}
use Rattle.runs.proofs.First.{finds_none, finds_first}
use Rattle.runs.proofs.Stops.{AtGoal, Refuses, no_action_lem, out_of_force, may_not, held_before, goal_missed, StopsAt}
use Rattle.runs.proofs.Searches.{may_unbarred, bars_barred, never_held, was_held, goal_found}
use Rattle.runs.proofs.Outcomes.{Outcome, outcome}

step_done :
    (t : Study) (past : List State) (s : State) (k i : ℕ) (rest : List ℕ) → Usable t i → May s (action_at t.actions i)
    → NeverHeld (s ∷ past) (action_at t.actions i).var (action_at t.actions i).post
    → run_on t past s k (i ∷ rest) ≡ run_on t (s ∷ past) (after s (action_at t.actions i)) (k + 1) rest
unfolding run_on
step_done t past s k i rest usable may never =
    let a = action_at t.actions i in
    rw (lt-leb (length t.actions) i usable.there, usable.in_force_lem, may_unbarred s a may, never_held (s ∷ past) a.var a.post never)

-- once the front is done, the run is that of the rest
pub front_done :
    (t : Study) (past : List State) (s : State) (k : ℕ) (front rest : List ℕ) (m : State) (n : ℕ) → n ≡ k + length front
    → Runs t s front m → NoneAgain t past s front
    → run_on t past s k (front ++ rest) ≡ run_on t (past_of t past s front) m n rest
front_done t past s k [] rest m n c r q = let e : n ≡ k = omega arith in rw (e, r)
front_done t past s k (i ∷ front) rest m n c (usable, may, r) (never, q) =
    step_done t past s k i (front ++ rest) usable may never
    ∙ front_done t (s ∷ past) (after s (action_at t.actions i)) (k + 1) front rest m n (omega arith) r q

goal_ends : (t : Study) (past : List State) (s : State) (k : ℕ) → Reached t s → run_on t past s k [] ≡ ends_in s
unfolding run_on
goal_ends t past s k reached = rw (finds_none (AtGoal t s) (length t.tasks) (λ v. v) (away s 0 t.tasks) (goal_found t s) reached)

refused_stops :
    (t : Study) (past : List State) (s : State) (k : ℕ) (list : List ℕ) (n x y : ℕ)
    → Refuses t past s k list n x y → run_on t past s k list ≡ stops (three n x y)
unfolding run_on
refused_stops t past s k list n x y (no_action_lem {i} h) = rw (le-leb (length t.actions) i h)
refused_stops t past s k list n x y (out_of_force {i} h o) = rw (lt-leb (length t.actions) i h, o)
refused_stops t past s k list n x y (may_not {i} {v} usable bars) =
    rw (lt-leb (length t.actions) i usable.there, usable.in_force_lem, bars_barred s (action_at t.actions i) v bars)
refused_stops t past s k list n x y (held_before {i} usable may o) =
    let a = action_at t.actions i in
    rw (lt-leb (length t.actions) i usable.there, usable.in_force_lem, may_unbarred s a may, was_held (s ∷ past) a.var a.post o)
refused_stops t past s k list n x y (goal_missed {v} first) =
    rw (finds_first (AtGoal t s) (length t.tasks) (λ v. v) (away s 0 t.tasks) v (goal_found t s) first)

module _ (t : Study) (past : List State) (s : State) (k : ℕ) (list : List ℕ) where
  comes_to_lem : (r : Ran) → Outcome t past s k list r → run_on t past s k list ≡ r
  comes_to_lem (ends_in e) (runs, none_again, reached) =
      rw append-nil at (front_done t past s k list [] e (k + length list) refl runs none_again)
      ∙ goal_ends t (past_of t past s list) e (k + length list) reached
  comes_to_lem (stops a) at =
      rw at.parts
      (front_done t past s k at.front at.rest at.state at.step at.counted at.runs at.none_again
      ∙ refused_stops t (past_of t past s at.front) at.state at.step at.rest a.number a.first a.second at.refuses)

  pub comes_out : (r : Ran) → (run_on t past s k list ≡ r) ↔ Outcome t past s k list r
  comes_out r = (λ e. subst (Outcome t past s k list) e (outcome t past s k list), comes_to_lem r)

  pub ends_exactly : (e : State) → (run_on t past s k list ≡ ends_in e) ↔ (Runs t s list e × NoneAgain t past s list × Reached t e)
  ends_exactly e = comes_out (ends_in e)

  pub stops_exactly : (n x y : ℕ) → (run_on t past s k list ≡ stops (three n x y)) ↔ StopsAt t past s k list n x y
  stops_exactly n x y = comes_out (stops (three n x y))
