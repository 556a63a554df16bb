-- What the searches of a run find: the first failing condition, what bars an action, a value held before, the first variable away from its goal.
-- Assumes nothing.
use mathlib.Core.Path.{◌≡◌, refl, subst}
use mathlib.Core.Logic.{◌≢◌, ◌↔◌}
use mathlib.Core.Bool.{Bool, true, false, ◌||◌}
use mathlib.Core.List.{List, [], ◌∷◌}
use Prim.Native.Nat.{ℕ, suc, ◌+◌}
use native.Mathlib.Omega.{arith}
use lib.Dec.{eqb}
use lib.ListN.{length}
use borrow.Author.Tests.{eqb-true, eqb-false, eq-eqb, ne_eqb}
use Rattle.plain.proofs.Tests.{picked}
use Rattle.study.specs.Study.{Condition, Action, Task, Study, condition_at, task_at}
use Rattle.plans.specs.Plans.{State, value_of, May, NeverHeld}
use Rattle.plans.proofs.States.{HoldsAt, hold_each}
use Rattle.runs.specs.Run.{Failing, none, fails, failing, barred, held, away}
use Rattle.runs.proofs.First.{Found, found_more, finds_none, finds_first}
use Rattle.runs.proofs.Stops.{FirstFailing, Bars, pre_fails, condition_fails, AtGoal}

-- the first condition that fails
abbrev variables : List Condition → ℕ → ℕ
variables cs k = (condition_at cs k).var

pub failing_found : (s : State) (cs : List Condition) → Found (HoldsAt s cs) (length cs) (variables cs) (failing s cs)
unfolding failing
failing_found s [] = λ k h. absurd (omega arith)
failing_found s (c ∷ rest) =
    found_more (HoldsAt s (c ∷ rest)) (length rest) (variables (c ∷ rest)) (eqb (value_of s c.var) c.value) (failing s rest)
    (eqb-true (value_of s c.var) c.value) (eqb-false (value_of s c.var) c.value) (failing_found s rest)

pub failing_first : (s : State) (cs : List Condition) (v : ℕ) → (failing s cs ≡ fails v) ↔ FirstFailing s cs v
failing_first s cs v = (first, finds)
  where
    finds : FirstFailing s cs v → failing s cs ≡ fails v
    finds f =
        rw f.variable
        (finds_first (HoldsAt s cs) (length cs) (variables cs) (failing s cs) f.at (failing_found s cs) f.first)

    first : failing s cs ≡ fails v → FirstFailing s cs v
    first e =
        let (k, f, n) = subst (Found (HoldsAt s cs) (length cs) (variables cs)) e (failing_found s cs) in
        record { at = k; first = f; variable = n }

-- what bars an action
abbrev pub BarredBy : State → Action → Failing → Type 0
BarredBy s a none = May s a
BarredBy s a (fails v) = Bars s a v

pub barred_by_lem : (s : State) (a : Action) → BarredBy s a (barred s a)
unfolding barred
barred_by_lem s a =
    picked (BarredBy s a) (eqb (value_of s a.var) a.pre)
    (λ e. conditions (eqb-true (value_of s a.var) a.pre e) (failing s a.conditions) (failing_found s a.conditions))
    λ e. pre_fails (eqb-false (value_of s a.var) a.pre e)
  where
    conditions :
        value_of s a.var ≡ a.pre → (f : Failing)
        → Found (HoldsAt s a.conditions) (length a.conditions) (variables a.conditions) f → BarredBy s a f
    conditions e none found = record { pre = e; conditions = (hold_each s a.conditions).1 found }
    conditions e (fails v) (k, first, n) = condition_fails e (record { at = k; first = first; variable = n })

pub may_unbarred : (s : State) (a : Action) → May s a → barred s a ≡ none
unfolding barred
may_unbarred s a may =
    rw (eq-eqb (value_of s a.var) a.pre may.pre)
    (finds_none (HoldsAt s cs) (length cs) (variables cs) (failing s cs) (failing_found s cs) ((hold_each s cs).0 may.conditions))
  where
    cs : List Condition
    cs = a.conditions

pub bars_barred : (s : State) (a : Action) (v : ℕ) → Bars s a v → barred s a ≡ fails v
unfolding barred
bars_barred s a v (pre_fails o) = rw (ne_eqb (value_of s a.var) a.pre o)
bars_barred s a v (condition_fails e f) = rw (eq-eqb (value_of s a.var) a.pre e) ((failing_first s a.conditions v).1 f)

-- a value held before
abbrev pub HeldSays : List State → ℕ → ℕ → Bool → Type 0
HeldSays past v q true = NeverHeld past v q → ⊥
HeldSays past v q false = NeverHeld past v q

pub held_says : (past : List State) (v q : ℕ) → HeldSays past v q (held past v q)
unfolding held
held_says [] v q = tt
held_says (s ∷ past) v q =
    from (eqb (value_of s v) q) (eqb-true (value_of s v) q) (eqb-false (value_of s v) q) (held past v q) (held_says past v q)
  where
    from :
        (b : Bool) → (b ≡ true → value_of s v ≡ q) → (b ≡ false → value_of s v ≢ q)
        → (c : Bool) → HeldSays past v q c → HeldSays (s ∷ past) v q (b || c)
    from true f g c h = λ (o, n). o (f refl)
    from false f g true h = λ (o, n). h n
    from false f g false h = (g refl, h)

pub never_held : (past : List State) (v q : ℕ) → NeverHeld past v q → held past v q ≡ false
never_held past v q n = from (held past v q) (held_says past v q)
  where
    from : (b : Bool) → HeldSays past v q b → b ≡ false
    from true h = absurd (h n)
    from false h = refl

pub was_held : (past : List State) (v q : ℕ) → (NeverHeld past v q → ⊥) → held past v q ≡ true
was_held past v q o = from (held past v q) (held_says past v q)
  where
    from : (b : Bool) → HeldSays past v q b → b ≡ true
    from true h = refl
    from false h = absurd (o h)

-- the first variable away from its goal
away_found :
    (s : State) (v : ℕ) (tasks : List Task) (name : ℕ → ℕ) → ((j : ℕ) → name j ≡ v + j)
    → Found (λ j. value_of s (name j) ≡ (task_at tasks j).goal) (length tasks) name (away s v tasks)
unfolding away
away_found s v [] name is = λ j h. absurd (omega arith)
away_found s v (k ∷ rest) name is =
    let e : v ≡ name 0 = omega (arith, is 0) in
    let value = value_of s (name 0) in
    rw e
    (found_more (λ j. value_of s (name j) ≡ (task_at (k ∷ rest) j).goal) (length rest) name (eqb value k.goal) (away s (name 0 + 1) rest)
    (eqb-true value k.goal) (eqb-false value k.goal)
    (away_found s (name 0 + 1) rest (λ j. name (suc j)) (λ j. omega (arith, is (suc j)))))

pub goal_found : (t : Study) (s : State) → Found (AtGoal t s) (length t.tasks) (λ v. v) (away s 0 t.tasks)
goal_found t s = away_found s 0 t.tasks (λ v. v) (λ v. omega arith)
