-- What doing an action alters and what it leaves, what the start state holds, and conditions by their index.
-- Assumes nothing.
use mathlib.Core.Path.{◌≡◌, refl, ap}
use mathlib.Core.Logic.{◌≢◌, ◌↔◌}
use mathlib.Core.List.{List, [], ◌∷◌}
use Prim.Native.Nat.{ℕ, zero, suc, ◌<◌}
use native.Mathlib.Omega.{arith}
use lib.ListN.{length, length-set}
use lib.Seq.{get_or-set_same, get_or-set_other}
use Rattle.study.specs.Study.{Condition, Action, Task, Study, condition_at, task_at}
use Rattle.plans.specs.Plans.{State, value_of, Hold, after, starts_of, start_state}

pub after_own : (s : State) (a : Action) → a.var < length s → value_of (after s a) a.var ≡ a.post
after_own s a h = get_or-set_same s a.var a.post 0 h

pub after_other : (s : State) (a : Action) (v : ℕ) → v ≢ a.var → value_of (after s a) v ≡ value_of s v
after_other s a v o = get_or-set_other s a.var v a.post 0 o

pub after-length : (s : State) (a : Action) → length (after s a) ≡ length s
after-length s a = length-set s a.var a.post

starts_value : (tasks : List Task) (v : ℕ) → value_of (starts_of tasks) v ≡ (task_at tasks v).start
starts_value [] v = refl
starts_value (k ∷ rest) zero = refl
starts_value (k ∷ rest) (suc v) = starts_value rest v

starts_length : (tasks : List Task) → length (starts_of tasks) ≡ length tasks
starts_length [] = refl
starts_length (k ∷ rest) = ap suc (starts_length rest)

pub start_value : (t : Study) (v : ℕ) → value_of (start_state t) v ≡ (task_at t.tasks v).start
start_value t = starts_value t.tasks

pub start-length : (t : Study) → length (start_state t) ≡ length t.tasks
start-length t = starts_length t.tasks

-- condition k holds
abbrev pub HoldsAt : State → List Condition → ℕ → Type 0
HoldsAt s cs k = value_of s (condition_at cs k).var ≡ (condition_at cs k).value

-- conditions hold exactly if each does
pub hold_each : (s : State) (cs : List Condition) → Hold s cs ↔ ((k : ℕ) → k < length cs → HoldsAt s cs k)
hold_each s cs = (each cs, all cs)
  where
    each : (cs : List Condition) → Hold s cs → (k : ℕ) → k < length cs → HoldsAt s cs k
    each [] h k b = absurd (omega arith)
    each (c ∷ rest) (e, h) zero b = e
    each (c ∷ rest) (e, h) (suc k) b = each rest h k (omega arith)

    all : (cs : List Condition) → ((k : ℕ) → k < length cs → HoldsAt s cs k) → Hold s cs
    all [] f = tt
    all (c ∷ rest) f = (f 0 (omega arith), all rest (λ k b. f (suc k) (omega arith)))
