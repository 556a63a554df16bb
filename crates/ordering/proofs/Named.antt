-- What the tables of setters and of steps name: the action that sets a value of a walk, and the one that leaves it.
-- Assumes nothing.
use mathlib.Core.Path.{◌≡◌}
use mathlib.Core.Logic.{◌⊎◌, inl, inr, ◌≢◌}
use mathlib.Core.List.{List}
use Prim.Native.Nat.{ℕ, ◌+◌, ◌*◌, ◌-◌, ◌<◌}
use native.Mathlib.Omega.{arith}
use native.Mathlib.Decide.{dec_lt}
use lib.ListN.{length, get_or}
use Rattle.study.specs.Study.{Study}
use Rattle.orders.specs.Orders.{In}
use Rattle.walks.specs.Walks.{OnAWalk, ValueOnWalk, var_of, post_of, start_of, goal_of}
use Rattle.walks.proofs.Leads.{leads_in, on_walk_usable}
use Rattle.tracing.specs.Facts.{NamesUsable}
use Rattle.tracing.specs.Steps.{SetterIs, Rowed}
use Rattle.std.specs.Prelude.{Some}
use Rattle.tracing.proofs.Setters.{names_usable}
use Rattle.tracing.proofs.StepTable.{step_leaves}

module _ {a : ℕ} (setters : List ℕ) {t : Study} (actions : a ≡ length t.actions) (names : NamesUsable a setters t) {v q : ℕ} where
  -- a walk action sets no start, and is named for what it sets
  pub walk_setter : {x : ℕ} → OnAWalk t x → var_of t x ≡ v → post_of t x ≡ q → (q ≢ start_of t v) × (get_or setters (16 * v + q) 0 ≡ x)
  walk_setter {x} on e f = (
    rw (← e, ← f) (on.walk.ends_at_start x on.on),
    names_usable setters actions names x (on_walk_usable on) e f,
  )

  -- a value on a walk that is not the start is set by the action that is named for it
  pub value_setter : ValueOnWalk t v q → q ≢ start_of t v → SetterIs t v q (Some (get_or setters (16 * v + q) 0))
  value_setter on away = go on.value
    where
      go : (q ≡ start_of t v) ⊎ ((i : ℕ) × (In i on.list × (post_of t i ≡ q))) → SetterIs t v q (Some (get_or setters (16 * v + q) 0))
      go (inl e) = absurd (away e)
      go (inr (x, (h, e))) =
          let (usable, own) = leads_in t v (start_of t v) on.list (goal_of t v) on.walk.leads x h in
          rw (names_usable setters actions names x usable own e) (usable, own, e)

-- a step is 0, 1, or 2 more than an action
pub step_low :
    {t : Study} {steps : List ℕ} → Rowed t (length t.tasks) steps
    → (v q : ℕ) → v < length t.tasks → q < 16 → get_or steps (16 * v + q) 0 < length t.actions + 2
step_low {t} {steps} rowed v q there narrow = go (dec_lt (get_or steps (16 * v + q) 0) 2)
  where
    go : Dec (get_or steps (16 * v + q) 0 < 2) → get_or steps (16 * v + q) 0 < length t.actions + 2
    go (yes h) = omega arith
    go (no h) = omega (arith, (on_walk_usable (step_leaves rowed v q (get_or steps (16 * v + q) 0 - 2) there narrow (omega arith)).0).there)
