-- The empty list is a straight plan exactly if start and goal agree.
-- Assumes nothing.
use mathlib.Core.Path.{◌≡◌, refl, sym, ◌∙◌}
use mathlib.Core.Logic.{◌↔◌}
use mathlib.Core.List.{[]}
use Prim.Native.Nat.{ℕ, ◌<◌}
use lib.ListN.{length}
use Rattle.study.specs.Study.{Study, task_at}
use Rattle.plans.specs.Plans.{start_state, Reached, StraightPlan}
use Rattle.plans.proofs.States.{start_value}

pub empty_straight : (t : Study) → StraightPlan t [] ↔ Reached t (start_state t)
empty_straight t =
    (λ p. rw p.plan.runs p.plan.reached, λ r. record { plan = record { end = start_state t; runs = refl; reached = r }; none_again = tt })

pub start_agrees :
    (t : Study) → Reached t (start_state t) ↔ ((v : ℕ) → v < length t.tasks → (task_at t.tasks v).start ≡ (task_at t.tasks v).goal)
start_agrees t = (λ r v h. sym (start_value t v) ∙ r v h, λ f v h. start_value t v ∙ f v h)
