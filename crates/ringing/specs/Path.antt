-- The path from action to action, as the tables hold it, and the circle that it ends in.
-- Assumes nothing.
use Rattle.std.specs.Prelude.{ℕ, suc, ◌≤◌, ◌<◌, ◌≡◌, ◌≢◌, List, length, get_or, take, drop}
use Rattle.study.specs.Study.{Study}
use Rattle.orders.specs.Orders.{In, Distinct}
use Rattle.explained.specs.Rings.{Stuck, WaitsOn, order_facts}
use Rattle.explained.specs.Facts.{Fact}
use Rattle.ringing.specs.declared.Circle.{Circle}

-- the first k of the path: each once, on or after a ring, waiting on the next; and for each action 1 more than its place on it, or 0
pub record Pathed (t : Study) (seen path : List ℕ) (k : ℕ) : Type 0 where
  pub room : k ≤ 256
  pub once : Distinct (take k path)
  pub stuck : (j : ℕ) → In j (take k path) → Stuck t j
  pub waits : (m : ℕ) → suc m < k → WaitsOn t (get_or path m 0) (get_or path (suc m) 0)
  pub seen_there : (m : ℕ) → m < k → get_or seen (get_or path m 0) 0 ≡ suc m
  pub seen_only : (i : ℕ) → i < 256 → get_or seen i 0 ≢ 0 → In i (take k path)

-- j is the next of the path: the first of all, or the one that the last waits on
abbrev pub Next : Study → List ℕ → ℕ → ℕ → Type 0
Next t path k j = (m : ℕ) → suc m ≡ k → WaitsOn t (get_or path m 0) j

-- the path ends where it comes back to its entry `from`; what stood on it before stays
pub record Closed (t : Study) (before after : List ℕ) (k : ℕ) (c : Circle) : Type 0 where
  pub low : c.from < c.to
  pub high : c.to ≤ 256
  pub longer : k ≤ c.to
  pub kept : take k after ≡ take k before
  pub once : Distinct (take c.to after)
  pub stuck : (j : ℕ) → In j (take c.to after) → Stuck t j
  pub waits : (m : ℕ) → suc m < c.to → WaitsOn t (get_or after m 0) (get_or after (suc m) 0)
  pub closes : (m : ℕ) → suc m ≡ c.to → WaitsOn t (get_or after m 0) (get_or after c.from 0)

-- the first k of the path are actions of the study
abbrev pub AreActions : Study → List ℕ → ℕ → Type 0
AreActions t path k = (m : ℕ) → m < k → get_or path m 0 < length t.actions

-- the circle of the path, as a list, and the orders of it
abbrev pub circle_in : List ℕ → Circle → List ℕ
circle_in path c = drop c.from (take c.to path)

abbrev pub circle_facts : Study → List ℕ → Circle → List Fact
circle_facts t path c = order_facts t (circle_in path c) (get_or path c.from 0)
