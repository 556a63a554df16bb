-- An event is done exactly if its action may be, and then the state is the one after it; a held event alters no value.
-- Assumes nothing.
use mathlib.Core.Path.{◌≡◌, refl, subst}
use mathlib.Core.Logic.{◌≢◌, ◌↔◌}
use mathlib.Core.List.{List, [], ◌∷◌}
use Prim.Native.Nat.{ℕ, ◌+◌}
use native.Mathlib.Omega.{arith}
use lib.Dec.{eqb}
use borrow.Author.Tests.{eqb-true, eqb-false}
use Rattle.plain.proofs.Tests.{picked}
use Rattle.study.specs.Study.{Condition, Action}
use Rattle.plans.specs.Plans.{State, value_of, Hold, May, after}
use Rattle.replays.specs.Replay.{Stance, idle, waits_for, Progress, unmet, lacks, reaches, moved, seen}

-- what a stance says of conditions, and of an action
abbrev UnmetSays : State → List Condition → Stance → Type 0
UnmetSays s cs idle = Hold s cs
UnmetSays s cs (waits_for v q) = (value_of s v ≢ q) × (Hold s cs → ⊥)

unmet_says : (s : State) (cs : List Condition) → UnmetSays s cs (unmet s cs)
unfolding unmet
unmet_says s [] = tt
unmet_says s (c ∷ rest) =
    picked (UnmetSays s (c ∷ rest)) (eqb (value_of s c.var) c.value)
    (λ e. more (eqb-true (value_of s c.var) c.value e) (unmet s rest) (unmet_says s rest))
    λ e. let o = eqb-false (value_of s c.var) c.value e in (o, λ (h, hs). o h)
  where
    more : value_of s c.var ≡ c.value → (f : Stance) → UnmetSays s rest f → UnmetSays s (c ∷ rest) f
    more e idle hold = (e, hold)
    more e (waits_for v q) (o, n) = (o, λ (h, hs). n hs)

-- nothing is lacking and the action may be done; or it may not be, and the variable waited for has another value
abbrev pub LacksSays : State → Action → Stance → Type 0
LacksSays s a idle = May s a
LacksSays s a (waits_for v q) = (value_of s v ≢ q) × (May s a → ⊥)

pub lacks_says : (s : State) (a : Action) → LacksSays s a (lacks s a)
unfolding lacks
lacks_says s a =
    picked (LacksSays s a) (eqb (value_of s a.var) a.pre)
    (λ e. more (eqb-true (value_of s a.var) a.pre e) (unmet s a.conditions) (unmet_says s a.conditions))
    λ e. let o = eqb-false (value_of s a.var) a.pre e in (o, λ m. o m.pre)
  where
    more : value_of s a.var ≡ a.pre → (f : Stance) → UnmetSays s a.conditions f → LacksSays s a f
    more e idle hold = record { pre = e; conditions = hold }
    more e (waits_for v q) (o, n) = (o, λ m. n m.conditions)

pub may_idle : (s : State) (a : Action) → May s a ↔ (lacks s a ≡ idle)
may_idle s a = (from (lacks s a) (lacks_says s a), λ e. subst (LacksSays s a) e (lacks_says s a))
  where
    from : (f : Stance) → LacksSays s a f → May s a → f ≡ idle
    from idle says m = refl
    from (waits_for v q) (o, n) m = absurd (n m)

-- an event of an action
module _ (p : Progress) (a : Action) (tick step : ℕ) where
  -- it is done exactly if its action may be, and held exactly if not; one of the two
  pub done_exactly : ((seen p a tick step).done ≡ p.done + 1) ↔ May p.occupant.state a
  done_exactly = (from (lacks p.occupant.state a) (lacks_says p.occupant.state a), λ m. rw ((may_idle p.occupant.state a).0 m))
    where
      from : (f : Stance) → LacksSays p.occupant.state a f → (moved p a tick step f).done ≡ p.done + 1 → May p.occupant.state a
      from idle m e = m
      from (waits_for v q) says e = absurd (omega arith)

  pub held_exactly : ((seen p a tick step).held ≡ p.held + 1) ↔ (May p.occupant.state a → ⊥)
  held_exactly =
      (from (lacks p.occupant.state a) (lacks_says p.occupant.state a), to (lacks p.occupant.state a) (lacks_says p.occupant.state a))
    where
      from : (f : Stance) → LacksSays p.occupant.state a f → (moved p a tick step f).held ≡ p.held + 1 → May p.occupant.state a → ⊥
      from idle m e = absurd (omega arith)
      from (waits_for v q) says e = says.1

      to : (f : Stance) → LacksSays p.occupant.state a f → (May p.occupant.state a → ⊥) → (moved p a tick step f).held ≡ p.held + 1
      to idle m n = absurd (n m)
      to (waits_for v q) says n = refl

  pub one_more : (seen p a tick step).done + (seen p a tick step).held ≡ p.done + p.held + 1
  one_more = from (lacks p.occupant.state a)
    where
      from : (f : Stance) → (moved p a tick step f).done + (moved p a tick step f).held ≡ p.done + p.held + 1
      from idle = omega arith
      from (waits_for v q) = omega arith

  -- done: the state is the one after the action, and the occupant is idle
  pub done_after : May p.occupant.state a → (seen p a tick step).occupant.state ≡ after p.occupant.state a
  done_after m = rw ((may_idle p.occupant.state a).0 m)

  pub done_idle : May p.occupant.state a ↔ ((seen p a tick step).occupant.stance ≡ idle)
  done_idle = may_idle p.occupant.state a

  -- held: no value is altered
  pub held_same : (May p.occupant.state a → ⊥) → (seen p a tick step).occupant.state ≡ p.occupant.state
  held_same n = from (lacks p.occupant.state a) (lacks_says p.occupant.state a)
    where
      from : (f : Stance) → LacksSays p.occupant.state a f → reaches p.occupant.state a f ≡ p.occupant.state
      from idle m = absurd (n m)
      from (waits_for v q) says = refl
