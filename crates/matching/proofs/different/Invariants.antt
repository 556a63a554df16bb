-- What holds at each turn of `matching::different`.
-- Assumes nothing.
use mathlib.Core.Path.{◌≡◌}
use mathlib.Core.List.{List}
use Prim.Native.Nat.{ℕ, ◌+◌, ◌≤◌}
use lib.ListN.{length, drop}
use Rattle.varied.specs.Figures.{different as Figures·different}
use Rattle.matching.specs.Kept.{Kept}
use Rattle.matching.proofs.different.Given as goal

abbrev pub invariant-loop-j : goal.invariant-loop-j
invariant-loop-j l =
    (l.found ≤ l.j) × ((plans : List (List ℕ)) → length plans ≡ l.n → Kept l.region l.base l.stride l.len plans
    → l.found + Figures·different (drop l.j plans) ≡ Figures·different plans)
