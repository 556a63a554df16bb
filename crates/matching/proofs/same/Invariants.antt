-- What holds at each turn of `matching::same`.
-- Assumes nothing.
use mathlib.Core.Path.{◌≡◌}
use mathlib.Core.List.{List}
use Prim.Native.Nat.{ℕ, ◌<◌}
use lib.ListN.{length, drop}
use Rattle.varied.specs.Figures.{same_list}
use Rattle.matching.specs.Kept.{plan_at, Kept}
use Rattle.matching.proofs.same.Given as goal

abbrev pub invariant-loop-p : goal.invariant-loop-p
invariant-loop-p l =
    (plans : List (List ℕ)) → l.j < length plans → l.k < length plans → Kept l.region l.base l.stride l.len plans
    → same_list (plan_at plans l.j) (plan_at plans l.k) ≡ same_list (drop l.p (plan_at plans l.j)) (drop l.p (plan_at plans l.k))
