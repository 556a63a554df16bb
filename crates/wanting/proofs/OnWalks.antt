-- What the steps at an action's conditions say: all that it wants is on walks, or the lowest variable of which it wants a value off the walk.
-- Assumes nothing.
use mathlib.Core.Path.{◌≡◌, refl}
use mathlib.Core.Logic.{◌≢◌}
use mathlib.Core.List.{List}
use Prim.Native.Nat.{ℕ, ◌+◌, ◌*◌, ◌<◌}
use native.Mathlib.Omega.{arith}
use native.Mathlib.Decide.{dec_lt}
use lib.ListN.{length}
use Rattle.study.specs.Study.{Study, condition_at}
use Rattle.walks.specs.Walks.{OnAWalk, ValueOnWalk, Wants, conditions_of}
use Rattle.walks.proofs.Wanted.{wanted-each}
use Rattle.tracing.specs.Steps.{Rowed}
use Rattle.wanting.specs.Wanting.{StandAt, step_at, HaveSteps, FirstOff}
use Rattle.planning.specs.Planning.{LowestOff}
use Rattle.tracing.proofs.StepTable.{step_has_value, value_has_step}
use Rattle.wanting.proofs.Conditions.{wants_at, stands_here, condition_there, conditions_rise}

-- all that action i wants is on walks
abbrev pub WantsOnWalks : Study → ℕ → Type 0
WantsOnWalks t i = (w q : ℕ) → Wants (conditions_of t i) w q → ValueOnWalk t w q

-- condition k of action i is
abbrev pub ConditionOnWalk : Study → ℕ → ℕ → Type 0
ConditionOnWalk t i k = ValueOnWalk t (condition_at (conditions_of t i) k).var (condition_at (conditions_of t i) k).value

module _
    {file : List ℕ} {place many i : ℕ} {t : Study} {steps : List ℕ}
    (stand : StandAt file place many t i) (rowed : Rowed t (length t.tasks) steps) where
  step_on_walk : (k : ℕ) → k < many → step_at (conditions_of t i) steps k ≢ 0 → ConditionOnWalk t i k
  step_on_walk k h some =
      step_has_value rowed _ _ (condition_there stand k h) (stands_here stand (place + 3 * k) k refl h).narrow some

  pub steps_on_walks : HaveSteps (conditions_of t i) steps (length (conditions_of t i)) → WantsOnWalks t i
  steps_on_walks have =
      wanted-each (ValueOnWalk t) (conditions_of t i) (λ k h. step_on_walk k (omega (arith, stand.holds.count)) (have k h))

  -- the variables rise, so a condition on a lower one stands before
  pub first_off_lowest :
      {u : ℕ} → FirstOff (conditions_of t i) steps u → OnAWalk t i → ((j : ℕ) → j < i → OnAWalk t j → WantsOnWalks t j) → LowestOff t i u
  first_off_lowest {u} first on lower = record {
    on_walk_lem = on;
    value = (condition_at (conditions_of t i) first.at).value;
    wants_it = rw first.var at (wants_at (conditions_of t i) first.at first.there);
    off =
        λ v. value_has_step rowed stand.lawful _ _
        (rw first.var at (condition_there stand first.at here)) v (rw first.var at first.off);
    lower_vars = λ w q l h. wanted-each (λ w q. w < u → ValueOnWalk t w q) (conditions_of t i) each w q h l;
    lower_actions = lower;
  }
    where
      here : first.at < many
      here = omega (arith, first.there, stand.holds.count)

      from :
          (k : ℕ) → k < many → (condition_at (conditions_of t i) k).var < u
          → Dec (k < first.at) → Dec (first.at < k) → ConditionOnWalk t i k
      from k h l (yes b) _ = step_on_walk k h (first.before k b)
      from k h l (no b) (yes d) = absurd (omega (arith, conditions_rise stand first.at k d h, first.var))
      from k h l (no b) (no d) = let e : k ≡ first.at = omega arith in absurd (omega (arith, first.var, rw e at l))

      each : (k : ℕ) → k < length (conditions_of t i) → (condition_at (conditions_of t i) k).var < u → ConditionOnWalk t i k
      each k h l = from k (omega (arith, stand.holds.count)) l (dec_lt k first.at) (dec_lt first.at k)
