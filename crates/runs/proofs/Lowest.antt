-- The conditions of a lawful action rise, so the first that fails is the one on the lowest variable.
-- Assumes nothing.
use mathlib.Core.Path.{◌≡◌, refl}
use mathlib.Core.Logic.Iff
use mathlib.Core.Logic.{◌≢◌, ◌↔◌}
use mathlib.Core.List.{List}
use Prim.Native.Nat.{ℕ, ◌<◌}
use native.Mathlib.Omega.{arith}
use native.Mathlib.Decide.{dec_lt}
use lib.ListN.{length}
use Rattle.study.specs.Study.{Condition, Action, condition_at}
use Rattle.lawful.specs.Lawful.{LawfulConditions, LawfulAction}
use Rattle.lawful.proofs.Conditions.{rising_lt}
use Rattle.plans.specs.Plans.{State, value_of}
use Rattle.plans.proofs.States.{HoldsAt}
use Rattle.runs.specs.Run.{fails, failing}
use Rattle.runs.proofs.Stops.{FirstFailing, Bars, pre_fails, condition_fails}
use Rattle.runs.proofs.Searches.{failing_first}

-- the condition on variable v fails, and every condition on a lower variable holds
pub record LowestFailing (s : State) (cs : List Condition) (v : ℕ) : Type 0 where
  pub at : ℕ
  pub there : at < length cs
  pub variable : v ≡ (condition_at cs at).var
  pub breaks : HoldsAt s cs at → ⊥
  pub lower : (k : ℕ) → k < length cs → (condition_at cs k).var < v → HoldsAt s cs k

pub first_lowest :
    {counts : List ℕ} {own : ℕ} {cs : List Condition} → LawfulConditions counts own cs
    → (s : State) (v : ℕ) → FirstFailing s cs v ↔ LowestFailing s cs v
first_lowest {counts} {own} {cs} lawful s v = (lowest, first)
  where
    lowest : FirstFailing s cs v → LowestFailing s cs v
    lowest f =
        record {
          at = f.at;
          there = f.first.there;
          variable = f.variable;
          breaks = f.first.breaks;
          lower = λ k h l. f.first.before k (earlier k h l);
        }
      where
        earlier : (k : ℕ) → k < length cs → (condition_at cs k).var < v → k < f.at
        earlier k h l = from (dec_lt k f.at) (dec_lt f.at k)
          where
            from : Dec (k < f.at) → Dec (f.at < k) → k < f.at
            from (yes b) d = b
            from (no b) (yes c) = absurd (omega (arith, f.variable, rising_lt lawful f.at k c h))
            from (no b) (no c) = let e : k ≡ f.at = omega arith in absurd (omega (arith, f.variable, rw e at l))

    first : LowestFailing s cs v → FirstFailing s cs v
    first f =
        record {
          at = f.at;
          first =
              record {
                there = f.there;
                before = λ j h. f.lower j (omega (arith, f.there)) (rw f.variable (rising_lt lawful j f.at h f.there));
                breaks = f.breaks;
              };
          variable = f.variable;
        }

pub first_failing_lowest :
    {counts : List ℕ} {own : ℕ} {cs : List Condition} → LawfulConditions counts own cs
    → (s : State) (v : ℕ) → (failing s cs ≡ fails v) ↔ LowestFailing s cs v
first_failing_lowest {cs = cs} lawful s v = Iff.trans (failing_first s cs v) (first_lowest lawful s v)

-- 15 in a lawful study: its own variable if pre fails, else the lowest variable whose condition fails
pub bars_own : (s : State) (a : Action) (v : ℕ) → value_of s a.var ≢ a.pre → Bars s a v ↔ (v ≡ a.var)
bars_own s a v o = (from, λ e. rw e (pre_fails o))
  where
    from : {v : ℕ} → Bars s a v → v ≡ a.var
    from (pre_fails o) = refl
    from (condition_fails e f) = absurd (o e)

pub bars_lowest :
    {counts : List ℕ} (s : State) (a : Action) (v : ℕ) → LawfulAction counts a
    → value_of s a.var ≡ a.pre → Bars s a v ↔ LowestFailing s a.conditions v
bars_lowest s a v lawful e = Iff.trans (from, condition_fails e) (first_lowest lawful.conditions s v)
  where
    from : {v : ℕ} → Bars s a v → FirstFailing s a.conditions v
    from (pre_fails o) = absurd (o e)
    from (condition_fails e f) = f
