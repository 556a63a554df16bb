-- The tasks of a crew entered one after another: those that are entered are those that stand in the file.
-- Assumes nothing.
use mathlib.Core.Path.{◌≡◌, ◌∙◌}
use mathlib.Core.List.{List}
use Prim.Native.Nat.{ℕ, ◌+◌, ◌*◌, ◌<◌}
use native.Mathlib.Omega.{arith}
use lib.ListN.{length, get_or, set}
use Rattle.study.specs.Study.{Crew}
use Rattle.tables.specs.Tables.{HoldsTasks, HoldsCrew}
use Rattle.standing.proofs.Grows.{each_entered}

-- the first v tasks that stand from a place on are entered
pub record Partly (file : List ℕ) (place v : ℕ) (starts goals : List ℕ) : Type 0 where
  pub start : (u : ℕ) → u < v → get_or starts u 0 ≡ get_or file (place + 4 * u + 2) 0
  pub goal : (u : ℕ) → u < v → get_or goals u 0 ≡ get_or file (place + 4 * u + 3) 0

pub none_entered : {file starts goals : List ℕ} {place : ℕ} → Partly file place 0 starts goals
none_entered = record { start = λ u h. absurd (omega arith); goal = λ u h. absurd (omega arith) }

pub one_entered :
    {file starts goals : List ℕ} {place v x y : ℕ} → Partly file place v starts goals → v < length starts → v < length goals
    → x ≡ get_or file (place + 4 * v + 2) 0 → y ≡ get_or file (place + 4 * v + 3) 0
    → Partly file place (v + 1) (set starts v x) (set goals v y)
one_entered {file} {starts} {goals} {place} {v} {x} {y} so_far room room' is-start is-goal = record {
  start = each_entered (λ u z. z ≡ get_or file (place + 4 * u + 2) 0) starts v x room so_far.start is-start;
  goal = each_entered (λ u z. z ≡ get_or file (place + 4 * u + 3) 0) goals v y room' so_far.goal is-goal;
}

pub all_entered :
    {file starts goals : List ℕ} {place n : ℕ} {k : Crew} → Partly file place n starts goals → HoldsCrew file place n k
    → HoldsTasks n starts goals k.tasks
all_entered so_far held = record {
  count = held.count;
  start = λ v h. so_far.start v h ∙ held.start v h;
  goal = λ v h. so_far.goal v h ∙ held.goal v h;
}
