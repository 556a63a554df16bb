-- Where the actions of a plan stand, and which there are: by its first entries, one more in each turn.
-- Assumes nothing.
use mathlib.Core.Path.{◌≡◌, refl, sym, ap, ◌∙◌}
use mathlib.Core.Bool.{Bool, true, false, ◌||◌, true≢false}
use mathlib.Core.List.{List, [], ◌∷◌, ◌++◌}
use Prim.Native.Nat.{ℕ, ◌+◌, ◌≤◌, ◌<◌}
use native.Mathlib.Numerals.{add-one}
use native.Mathlib.Omega.{arith}
use native.Mathlib.Decide.{ℕ_discrete}
use lib.Dec.{eqb}
use lib.ListN.{length, get_or, take, set, length-set}
use lib.Seq.{take-suc, take-length, get_or-set_same, get_or-set_other}
use borrow.Author.Count.{below_more}
use borrow.Author.Tests.{eq-eqb, ne_eqb}
use Rattle.bits.specs.Bits.{within, Added}
use Rattle.explained.specs.Reasons.{step_of, stands}
use Rattle.reasons.specs.Known.{Placed}

-- ---- the step of an action

pub record StepIs (plan : List ℕ) (i : ℕ) : Type 0 where
  pub there : step_of plan i < length plan
  pub is : get_or plan (step_of plan i) 0 ≡ i

step_is : (plan : List ℕ) (i : ℕ) → stands plan i ≡ true → StepIs plan i
unfolding stands step_of
step_is [] i e = absurd (true≢false (sym e))
step_is (a ∷ rest) i e = from (ℕ_discrete a i) (step_is rest i)
  where
    from : Dec (a ≡ i) → (stands rest i ≡ true → StepIs rest i) → StepIs (a ∷ rest) i
    from (yes d) on = record { there = rw (eq-eqb a i d) (omega arith); is = rw (eq-eqb a i d) d }
    from (no d) on =
        let s = on (rw (ne_eqb a i d) at e) in
        record { there = rw (ne_eqb a i d) (omega (arith, s.there)); is = rw (ne_eqb a i d) s.is }

-- no action twice
abbrev pub Once : List ℕ → Type 0
Once plan = (j k : ℕ) → j < k → k < length plan → get_or plan j 0 ≡ get_or plan k 0 → ⊥

-- the table has the step of each of the first k entries
pub record PlacedSoFar (plan places : List ℕ) (k : ℕ) : Type 0 where
  pub once : Once plan
  pub short : length plan ≤ 256
  pub size : length places ≡ 256
  pub few : k ≤ length plan
  pub so_far_lem : (m : ℕ) → m < k → get_or places (get_or plan m 0) 0 ≡ m

pub none_placed : {plan places : List ℕ} → length places ≡ 256 → length plan ≤ 256 → Once plan → PlacedSoFar plan places 0
none_placed size short once = record { once = once; short = short; size = size; few = omega arith; so_far_lem = λ m h. absurd (omega arith) }

pub one_placed :
    {plan places : List ℕ} {k x : ℕ} → PlacedSoFar plan places k → k < length plan → x ≡ get_or plan k 0 → x < 256
    → PlacedSoFar plan (set places x k) (k + 1)
one_placed {plan} {places} {k} {x} p h is low = record {
  once = p.once;
  short = p.short;
  size = length-set places x k ∙ p.size;
  few = omega arith;
  so_far_lem =
      below_more (λ m. get_or (set places x k) (get_or plan m 0) 0 ≡ m) k
      (λ m b. get_or-set_other places x (get_or plan m 0) k 0 (λ e. p.once m k b h (e ∙ is)) ∙ p.so_far_lem m b)
      (rw (← is) (get_or-set_same places x k 0 (omega (arith, p.size))));
}

pub all_placed : {plan places : List ℕ} {k : ℕ} → PlacedSoFar plan places k → length plan ≤ k → Placed plan places
all_placed {plan} {places} p h i e =
    let s = step_is plan i e in
    let f = p.so_far_lem (step_of plan i) (omega (arith, s.there)) in
    rw s.is at f

-- ---- the set of the actions

stands_more : (plan : List ℕ) (a i : ℕ) → stands (plan ++ (a ∷ [])) i ≡ (eqb a i || stands plan i)
unfolding stands
stands_more [] a i = refl
stands_more (b ∷ plan) a i = ap (λ (z : Bool). eqb b i || z) (stands_more plan a i) ∙ swapped (eqb b i) (eqb a i) (stands plan i)
  where
    swapped : (x y z : Bool) → (x || (y || z)) ≡ (y || (x || z))
    swapped true true z = refl
    swapped true false z = refl
    swapped false y z = refl

-- the set has the first k entries of the plan, if it was empty
pub record GatheredSoFar (plan some some' : List ℕ) (k : ℕ) : Type 0 where
  pub long : length some' ≡ 4
  pub few : k ≤ length plan
  pub so_far_lem : ((i : ℕ) → within some i ≡ false) → (i : ℕ) → within some' i ≡ stands (take k plan) i

pub none_gathered : {plan some : List ℕ} → length some ≡ 4 → GatheredSoFar plan some some 0
unfolding stands
none_gathered long = record { long = long; few = omega arith; so_far_lem = λ empty i. empty i }

pub one_gathered :
    {plan some some' some'' : List ℕ} {k : ℕ} → GatheredSoFar plan some some' k → k < length plan → Added (get_or plan k 0) some' some''
    → GatheredSoFar plan some some'' (k + 1)
one_gathered {plan} {k = k} g h added = record {
  long = added.long;
  few = omega arith;
  so_far_lem =
      λ empty i. added.members i ∙ rw (g.so_far_lem empty i, add-one k, take-suc plan k 0 h) (sym (stands_more (take k plan) (get_or plan k 0) i));
}

pub all_gathered :
    {plan some some' : List ℕ} {k : ℕ} → GatheredSoFar plan some some' k → length plan ≤ k
    → ((i : ℕ) → within some i ≡ false) → (i : ℕ) → within some' i ≡ stands plan i
all_gathered {plan} {k = k} g h empty i =
    let e : k ≡ length plan = omega (arith, g.few) in
    rw (e, take-length) at (g.so_far_lem empty i)
