-- What holds at each turn of `matching::comes_again`.
-- Assumes nothing.
use mathlib.Core.Path.{◌≡◌}
use mathlib.Core.List.{List}
use Prim.Native.Nat.{ℕ, ◌+◌}
use lib.ListN.{length, drop}
use Rattle.varied.specs.Figures.{is_among}
use Rattle.matching.specs.Kept.{plan_at, Kept}
use Rattle.matching.proofs.comes_again.Given as goal

abbrev pub invariant-loop-k : goal.invariant-loop-k
invariant-loop-k l =
    (plans : List (List ℕ)) → length plans ≡ l.n → Kept l.region l.base l.stride l.len plans
    → is_among (plan_at plans l.j) (drop (l.j + 1) plans) ≡ is_among (plan_at plans l.j) (drop l.k plans)
