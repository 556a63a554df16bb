-- The actions that a plan may use: where they set a value, and that in a lawful study one at most of them does.
-- Assumes nothing.
use mathlib.Core.Path.{◌≡◌}
use Prim.Native.Nat.{ℕ}
use Rattle.study.specs.Study.{Study, action_at}
use Rattle.study.proofs.Setters.{SetsAt}
use Rattle.lawful.specs.Lawful.{Lawful}
use Rattle.plans.specs.Plans.{Usable}

module _ {t : Study} where
  pub setter_usable : {v q i : ℕ} → SetsAt t.situation t.actions v q i → Usable t i
  setter_usable s = record { there = s.there; in_force_lem = s.in_force_lem }

  pub usable_sets :
      {v q i : ℕ} → Usable t i → (action_at t.actions i).var ≡ v → (action_at t.actions i).post ≡ q
      → SetsAt t.situation t.actions v q i
  usable_sets u e f = record { there = u.there; in_force_lem = u.in_force_lem; var = e; post = f }

  pub one_setter :
      Lawful t → (i j : ℕ) → Usable t i → Usable t j
      → (action_at t.actions i).var ≡ (action_at t.actions j).var
      → (action_at t.actions i).post ≡ (action_at t.actions j).post
      → i ≡ j
  one_setter lawful i j u w = lawful.post_unique i j u.there w.there u.in_force_lem w.in_force_lem
