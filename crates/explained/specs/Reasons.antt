-- What is told of each step of a plan: every direct order that ends in it, with its rule and the earlier step.
-- Assumes nothing.
use Rattle.std.specs.Prelude.{ℕ, zero, suc, Bool, false, ◌&&◌, ◌||◌, List, [], ◌∷◌, ◌++◌, eqb, length}
use Rattle.std.proofs.Math.Option.{Option, none, some}
use Rattle.plain.specs.Choose.{pick}
use Rattle.study.specs.Study.{Condition, Study}
use Rattle.walks.specs.Walks.{var_of, pre_of, conditions_of, start_of}
use Rattle.walks.specs.Traces.{setter_of}
use Rattle.wanting.specs.Wanting.{wants}
use Rattle.explained.specs.Facts.{Fact, Rule, next, sets, leaves, after}

-- where in a plan an action stands, and whether it does
unfoldable pub step_of : List ℕ → ℕ → ℕ
step_of [] i = 0
step_of (a ∷ rest) i = pick (eqb a i) 0 (suc (step_of rest i))

unfoldable pub stands : List ℕ → ℕ → Bool
stands [] i = false
stands (a ∷ rest) i = eqb a i || stands rest i

-- the action that sets v to q, as a reason
abbrev pub reason_by : List ℕ → Rule → ℕ → ℕ → Option ℕ → List Fact
reason_by plan r v q none = []
reason_by plan r v q (some i) = after r (step_of plan i) i v q ∷ []

-- .. unless the value is the start
abbrev pub set_reason : Study → List ℕ → Rule → ℕ → ℕ → List Fact
set_reason t plan r v q = pick (eqb q (start_of t v)) [] (reason_by plan r v q (setter_of t v q))

-- (b): over each condition, in order
unfoldable pub set_reasons : Study → List ℕ → List Condition → List Fact
set_reasons t plan [] = []
set_reasons t plan (c ∷ rest) = set_reason t plan sets c.var c.value ++ set_reasons t plan rest

-- (c): each action of the plan that wants v = q, of n actions from the k-th on
unfoldable pub leave_reasons : Study → List ℕ → ℕ → ℕ → ℕ → ℕ → List Fact
leave_reasons t plan v q k zero = []
leave_reasons t plan v q k (suc n) =
    pick (stands plan k && wants (conditions_of t k) v q) (after leaves (step_of plan k) k v q ∷ []) [] ++ leave_reasons t plan v q (suc k) n

-- those of action j
abbrev pub reasons_of : Study → List ℕ → ℕ → List Fact
reasons_of t plan j =
    set_reason t plan next (var_of t j) (pre_of t j)
    ++ (set_reasons t plan (conditions_of t j) ++ leave_reasons t plan (var_of t j) (pre_of t j) 0 (length t.actions))
