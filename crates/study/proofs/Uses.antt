-- Which variables are used with one record more, and what the lowest variable that is not tells.
-- Assumes nothing.
use mathlib.Core.Path.{◌≡◌, refl, sym, ap, ◌∙◌, subst}
use mathlib.Core.Bool.{Bool, true, false, ◌||◌, or_assoc, or-false, false≢true}
use mathlib.Core.Option.{Option, none, some}
use mathlib.Core.List.{List, [], ◌∷◌, ◌++◌}
use Prim.Native.Nat.{ℕ, zero, suc, ◌+◌, ◌-◌, ◌≤◌, ◌<◌}
use native.Mathlib.Omega.{arith}
use native.Mathlib.Decide.{ℕ_discrete, dec_lt}
use lib.Dec.{eqb}
use lib.ListN.{length, set}
use Rattle.plain.specs.Choose.{pick}
use Rattle.study.specs.Study.{Condition, Action, Study, action_at}
use Rattle.study.specs.Reading.{action, condition, times, with, with_condition, within, last_action}
use Rattle.study.specs.Uses.{named, uses_it, uses, unused_from, first_unused}

-- ---- with one record more

-- one test of two brought to the front
to_front : (a b c : Bool) → (a || (b || c)) ≡ (b || (a || c))
to_front true true c = refl
to_front true false c = refl
to_front false b c = refl

pub named_more : (cs : List Condition) (c : Condition) (v : ℕ) → named (cs ++ (c ∷ [])) v ≡ (eqb c.var v || named cs v)
unfolding named
named_more [] c v = refl
named_more (d ∷ rest) c v = rw (named_more rest c v) (to_front (eqb d.var v) (eqb c.var v) (named rest v))

pub uses_more : (actions : List Action) (a : Action) (v : ℕ) → uses (actions ++ (a ∷ [])) v ≡ (uses_it a v || uses actions v)
unfolding uses
uses_more [] a v = refl
uses_more (b ∷ rest) a v = rw (uses_more rest a v) (to_front (uses_it b v) (uses_it a v) (uses rest v))

-- an action in the place of another that uses the same, and what a test tells besides
pub uses-set :
    (actions : List Action) (k : ℕ) (a : Action) (more : Bool) (v : ℕ)
    → k < length actions → uses_it a v ≡ (more || uses_it (action_at actions k) v)
    → uses (set actions k a) v ≡ (more || uses actions v)
unfolding uses
uses-set [] k a more v h e = absurd (omega arith)
uses-set (b ∷ rest) zero a more v h e = rw (e, or_assoc more (uses_it b v) (uses rest v))
uses-set (b ∷ rest) (suc k) a more v h e = rw (uses-set rest k a more v (omega arith) e) (to_front (uses_it b v) more (uses rest v))

module _ (s : Study) where
  pub uses_with_action : (w p q v : ℕ) → uses (with s (action w p q)).actions v ≡ (eqb w v || uses s.actions v)
  unfolding with named
  uses_with_action w p q v = uses_more s.actions _ v ∙ rw (or-false (eqb w v))

  module _ (some_action : 1 ≤ length s.actions) where
    pub uses_with_condition : (w q v : ℕ) → uses (with s (condition w q)).actions v ≡ (eqb w v || uses s.actions v)
    unfolding with
    uses_with_condition w q v =
        uses-set s.actions (length s.actions - 1) (with_condition (last_action s) w q) (eqb w v) v (omega arith)
        (rw (named_more (last_action s).conditions (record { var = w; value = q }) v)
        (to_front (eqb (last_action s).var v) (eqb w v) (named (last_action s).conditions v)))

    pub uses_with_times : (n v : ℕ) → uses (with s (times n)).actions v ≡ uses s.actions v
    unfolding with
    uses_with_times n v = uses-set s.actions (length s.actions - 1) (within (last_action s) n) false v (omega arith) refl

-- ---- the lowest variable that is not used

-- every lower variable is used, and this one is not
pub record LowestUnused (s : Study) (v : ℕ) : Type 0 where
  pub there : v < length s.counts
  pub unused : uses s.actions v ≡ false
  pub lower_used : (w : ℕ) → w < v → uses s.actions w ≡ true

-- what looking for it comes to
pub data Sought (s : Study) : Option ℕ → Type 0 where
  all_used : ((v : ℕ) → v < length s.counts → uses s.actions v ≡ true) → Sought s none
  lowest : (v : ℕ) → LowestUnused s v → Sought s (some v)

abbrev IsNone : Option ℕ → Type 0
IsNone none = Unit {0}
IsNone (some v) = ⊥

module _ (s : Study) where
  abbrev UsedBelow : ℕ → Type 0
  UsedBelow v = (w : ℕ) → w < v → uses s.actions w ≡ true

  one_more : (v : ℕ) → UsedBelow v → uses s.actions v ≡ true → UsedBelow (suc v)
  one_more v below here w h = go (ℕ_discrete v w)
    where
      go : Dec (v ≡ w) → uses s.actions w ≡ true
      go (yes e) = subst (λ (x : ℕ). uses s.actions x ≡ true) e here
      go (no o) = below w (omega (arith, o))

  sought_from : (n v : ℕ) → v + n ≡ length s.counts → UsedBelow v → Sought s (unused_from s.actions v n)
  unfolding unused_from
  sought_from zero v e below = all_used (λ w h. below w (omega arith))
  sought_from (suc n) v e below = go (uses s.actions v) refl (λ here. sought_from n (suc v) (omega arith) (one_more v below here))
    where
      go :
          (b : Bool) → uses s.actions v ≡ b → (uses s.actions v ≡ true → Sought s (unused_from s.actions (suc v) n))
          → Sought s (pick b (unused_from s.actions (suc v) n) (some v))
      go true here on = on here
      go false here on = lowest v (record { there = omega arith; unused = here; lower_used = below })

  pub first_unused_lem : Sought s (first_unused s)
  first_unused_lem = sought_from (length s.counts) 0 (omega arith) (λ w h. absurd (omega arith))

  pub none_unused : first_unused s ≡ none → (v : ℕ) → v < length s.counts → uses s.actions v ≡ true
  none_unused e = go (first_unused s) e first_unused_lem
    where
      go : (found : Option ℕ) → found ≡ none → Sought s found → (v : ℕ) → v < length s.counts → uses s.actions v ≡ true
      go none e (all_used each) = each
      go (some _) e (lowest v l) = absurd (subst IsNone (sym e) tt)

  pub nothing_unused : ((v : ℕ) → v < length s.counts → uses s.actions v ≡ true) → first_unused s ≡ none
  nothing_unused each = go (first_unused s) first_unused_lem
    where
      go : (found : Option ℕ) → Sought s found → found ≡ none
      go none (all_used _) = refl
      go (some _) (lowest v l) = absurd (false≢true (sym l.unused ∙ each v l.there))

  pub unused_is_lowest : {v : ℕ} → first_unused s ≡ some v → LowestUnused s v
  unused_is_lowest {v} e = go (first_unused s) e first_unused_lem
    where
      go : (found : Option ℕ) → found ≡ some v → Sought s found → LowestUnused s v
      go none e (all_used _) = absurd (subst IsNone e tt)
      go (some _) e (lowest w l) = let same : w ≡ v = cc in subst (LowestUnused s) same l

  pub lowest_is_found : {v : ℕ} → LowestUnused s v → first_unused s ≡ some v
  lowest_is_found {v} is = go (first_unused s) first_unused_lem
    where
      go : (found : Option ℕ) → Sought s found → found ≡ some v
      go none (all_used each) = absurd (false≢true (sym is.unused ∙ each v is.there))
      go (some _) (lowest w l) = ap some (same (dec_lt w v) (dec_lt v w))
        where
          same : Dec (w < v) → Dec (v < w) → w ≡ v
          same (yes less) more = absurd (false≢true (sym l.unused ∙ is.lower_used w less))
          same (no _) (yes more) = absurd (false≢true (sym is.unused ∙ l.lower_used v more))
          same (no less) (no more) = omega (arith, less, more)
