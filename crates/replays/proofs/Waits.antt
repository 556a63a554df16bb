-- A held event leaves the occupant waiting for the first that failed: its own variable and pre, else the condition on the lowest variable whose condition fails.
-- Assumes nothing.
use mathlib.Core.Path.{◌≡◌, refl, sym, ap, subst, ◌∙◌}
use mathlib.Core.Logic.{◌≢◌, ◌↔◌}
use mathlib.Core.Bool.{Bool, true, false}
use mathlib.Core.List.{List, [], ◌∷◌}
use Prim.Native.Nat.{ℕ, zero, suc, ◌<◌}
use native.Mathlib.Omega.{arith}
use lib.Dec.{eqb}
use lib.ListN.{length}
use borrow.Author.Tests.{eqb-true, eqb-false}
use Rattle.plain.specs.Choose.{pick}
use Rattle.plain.proofs.Tests.{picked}
use Rattle.study.specs.Study.{Condition, Action, condition_at}
use Rattle.lawful.specs.Lawful.{LawfulAction}
use Rattle.plans.specs.Plans.{State, value_of, May}
use Rattle.plans.proofs.States.{HoldsAt, hold_each}
use Rattle.runs.specs.Run.{Failing, none, fails, failing, barred}
use Rattle.runs.proofs.First.{First, first_unique}
use Rattle.runs.proofs.Lowest.{first_lowest}
use Rattle.replays.specs.Replay.{Stance, idle, waits_for, unmet, lacks}
use Rattle.replays.proofs.Events.{LacksSays, lacks_says}

-- the first condition that fails is on variable v and wants value q
pub record FirstUnmet (s : State) (cs : List Condition) (v q : ℕ) : Type 0 where
  pub at : ℕ
  pub first : First (HoldsAt s cs) (length cs) at
  pub variable : v ≡ (condition_at cs at).var
  pub value : q ≡ (condition_at cs at).value

-- .. and is the one on the lowest such variable
pub record LowestUnmet (s : State) (cs : List Condition) (v q : ℕ) : Type 0 where
  pub at : ℕ
  pub there : at < length cs
  pub variable : v ≡ (condition_at cs at).var
  pub value : q ≡ (condition_at cs at).value
  pub breaks : value_of s v ≢ q
  pub lower : (k : ℕ) → k < length cs → (condition_at cs k).var < v → HoldsAt s cs k

-- what an action that may not be done lacks first
pub data Lacks (s : State) (a : Action) : ℕ → ℕ → Type 0 where
  pre_fails : value_of s a.var ≢ a.pre → Lacks s a a.var a.pre
  condition_fails : {v q : ℕ} → value_of s a.var ≡ a.pre → FirstUnmet s a.conditions v q → Lacks s a v q

abbrev UnmetBy : State → List Condition → Stance → Type 0
UnmetBy s cs idle = Unit {0}
UnmetBy s cs (waits_for v q) = FirstUnmet s cs v q

unmet_by : (s : State) (cs : List Condition) → UnmetBy s cs (unmet s cs)
unfolding unmet
unmet_by s [] = tt
unmet_by s (c ∷ rest) =
    picked (UnmetBy s (c ∷ rest)) (eqb (value_of s c.var) c.value)
    (λ e. more (eqb-true (value_of s c.var) c.value e) (unmet s rest) (unmet_by s rest))
    λ e.
    record {
      at = 0;
      first = record { there = omega arith; before = λ j h. absurd (omega arith); breaks = eqb-false (value_of s c.var) c.value e };
      variable = refl;
      value = refl;
    }
  where
    before : value_of s c.var ≡ c.value → (n : ℕ) → ((j : ℕ) → j < n → HoldsAt s rest j) → (j : ℕ) → j < suc n → HoldsAt s (c ∷ rest) j
    before e n f zero h = e
    before e n f (suc j) h = f j (omega arith)

    more : value_of s c.var ≡ c.value → (f : Stance) → UnmetBy s rest f → UnmetBy s (c ∷ rest) f
    more e idle u = tt
    more e (waits_for v q) u =
        record {
          at = suc u.at;
          first =
              record {
                there = omega (arith, u.first.there);
                before = before e u.at u.first.before;
                breaks = u.first.breaks;
              };
          variable = u.variable;
          value = u.value;
        }

abbrev LackedBy : State → Action → Stance → Type 0
LackedBy s a idle = Unit {0}
LackedBy s a (waits_for v q) = Lacks s a v q

lacked_by : (s : State) (a : Action) → LackedBy s a (lacks s a)
unfolding lacks
lacked_by s a =
    picked (LackedBy s a) (eqb (value_of s a.var) a.pre)
    (λ e. more (eqb-true (value_of s a.var) a.pre e) (unmet s a.conditions) (unmet_by s a.conditions))
    λ e. pre_fails (eqb-false (value_of s a.var) a.pre e)
  where
    more : value_of s a.var ≡ a.pre → (f : Stance) → UnmetBy s a.conditions f → LackedBy s a f
    more e idle u = tt
    more e (waits_for v q) u = condition_fails e u

lacks_once : (s : State) (a : Action) {v q w r : ℕ} → Lacks s a v q → Lacks s a w r → (w ≡ v) × (r ≡ q)
lacks_once s a (pre_fails o) (pre_fails n) = (refl, refl)
lacks_once s a (pre_fails o) (condition_fails e u) = absurd (o e)
lacks_once s a (condition_fails e u) (pre_fails o) = absurd (o e)
lacks_once s a (condition_fails e u) (condition_fails f w) =
    let same : w.at ≡ u.at = first_unique w.first u.first in
    let at = condition_at a.conditions in
    (w.variable ∙ (ap (λ (k : ℕ). (at k).var) same ∙ sym u.variable), w.value ∙ (ap (λ (k : ℕ). (at k).value) same ∙ sym u.value))

lacks_bars : (s : State) (a : Action) {v q : ℕ} → Lacks s a v q → May s a → ⊥
lacks_bars s a (pre_fails o) may = o may.pre
lacks_bars s a (condition_fails e u) may = u.first.breaks ((hold_each s a.conditions).0 may.conditions u.at u.first.there)

-- what is waited for is what failed first
pub waits_first : (s : State) (a : Action) (v q : ℕ) → lacks s a ≡ waits_for v q → Lacks s a v q
waits_first s a v q e = subst (LackedBy s a) e (lacked_by s a)

-- .. exactly
pub waits_exactly : (s : State) (a : Action) (v q : ℕ) → (lacks s a ≡ waits_for v q) ↔ Lacks s a v q
waits_exactly s a v q = (waits_first s a v q, from (lacks s a) (lacks_says s a) (lacked_by s a))
  where
    from : (f : Stance) → LacksSays s a f → LackedBy s a f → Lacks s a v q → f ≡ waits_for v q
    from idle may u l = absurd (lacks_bars s a l may)
    from (waits_for w r) told u l = let (same, wanted) = lacks_once s a l u in rw (same, wanted)

-- its own variable away from pre: then that, with pre
pub waits_own : (s : State) (a : Action) (v q : ℕ) → lacks s a ≡ waits_for v q → value_of s a.var ≢ a.pre → (v ≡ a.var) × (q ≡ a.pre)
waits_own s a v q e o = from (waits_first s a v q e)
  where
    from : {v q : ℕ} → Lacks s a v q → (v ≡ a.var) × (q ≡ a.pre)
    from (pre_fails n) = (refl, refl)
    from (condition_fails h u) = absurd (o h)

-- else a condition that fails, and in a lawful study all conditions on lower variables hold
pub waits_lowest :
    {counts : List ℕ} (s : State) (a : Action) (v q : ℕ) → LawfulAction counts a
    → lacks s a ≡ waits_for v q → value_of s a.var ≡ a.pre → LowestUnmet s a.conditions v q
waits_lowest s a v q lawful e h = from (waits_first s a v q e)
  where
    lowest : {v q : ℕ} → FirstUnmet s a.conditions v q → LowestUnmet s a.conditions v q
    lowest {v} {q} u =
        record {
          at = u.at;
          there = u.first.there;
          variable = u.variable;
          value = u.value;
          breaks = rw (u.variable, u.value) u.first.breaks;
          lower = ((first_lowest lawful.conditions s v).0 (record { at = u.at; first = u.first; variable = u.variable })).lower;
        }

    from : {v q : ℕ} → Lacks s a v q → LowestUnmet s a.conditions v q
    from (pre_fails o) = absurd (o h)
    from (condition_fails e u) = lowest u

-- the variable waited for is the one that a run's 15 names
abbrev pub variable_of : Stance → Failing
variable_of idle = none
variable_of (waits_for v q) = fails v

variable_picked : (b : Bool) (f g : Stance) → variable_of (pick b f g) ≡ pick b (variable_of f) (variable_of g)
variable_picked true f g = refl
variable_picked false f g = refl

unmet-failing : (s : State) (cs : List Condition) → variable_of (unmet s cs) ≡ failing s cs
unfolding unmet failing
unmet-failing s [] = refl
unmet-failing s (c ∷ rest) =
    rw (variable_picked (eqb (value_of s c.var) c.value) (unmet s rest) (waits_for c.var c.value), unmet-failing s rest)

pub as_fifteen : (s : State) (a : Action) → variable_of (lacks s a) ≡ barred s a
unfolding lacks barred
as_fifteen s a =
    rw (variable_picked (eqb (value_of s a.var) a.pre) (unmet s a.conditions) (waits_for a.var a.pre), unmet-failing s a.conditions)
