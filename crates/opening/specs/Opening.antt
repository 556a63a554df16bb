-- A set of ranks, those of the next actions that may be looked at: whose they are, and which are put in.
-- Assumes nothing.
use Rattle.std.specs.Prelude.{ℕ, ◌+◌, ◌*◌, ◌<◌, ◌≡◌, ◌⊎◌, true, List, length, get_or}
use Rattle.bits.specs.Bits.{bit, within}
use Rattle.opening.specs.Conditions.{entry_at}

-- 2 more than the next action of a variable, or 1 at the end of its walk
abbrev pub step_of : List ℕ → List ℕ → ℕ → ℕ
step_of steps state v = get_or steps (16 * v + get_or state v 0) 0

-- nothing wants the value that v has
abbrev pub Unwanted : (wants state : List ℕ) → ℕ → Type 0
Unwanted wants state v = get_or wants (16 * v + get_or state v 0) 0 ≡ 0

-- the step leads on, by an action of rank r
pub record Leads (ranks : List ℕ) (step r : ℕ) : Type 0 where
  pub action : ℕ
  pub next : step ≡ action + 2
  pub rank : get_or ranks action 0 ≡ r

-- ---- which ranks are put in

-- the set has those that were in it and those that P tells, and no others
pub record Joined (P : ℕ → Type 0) (before after : List ℕ) : Type 0 where
  pub long : length after ≡ 4
  pub kept : (r : ℕ) → within before r ≡ true → within after r ≡ true
  pub joined : (r : ℕ) → P r → within after r ≡ true
  pub only : (r : ℕ) → within after r ≡ true → (within before r ≡ true) ⊎ P r

-- r is the rank of v's next action, and nothing wants the value that v has
pub record Opens (ranks steps wants state : List ℕ) (v r : ℕ) : Type 0 where
  pub unwanted : Unwanted wants state v
  pub leads : Leads ranks (step_of steps state v) r

-- .. for one of the first n variables
abbrev pub OpensBelow : ℕ → (ranks steps wants state : List ℕ) → ℕ → Type 0
OpensBelow n ranks steps wants state r = (v : ℕ) × ((v < n) × Opens ranks steps wants state v r)

-- r is the rank of the action that leaves the value of a condition which nothing wants any more
pub record Freed (file : List ℕ) (place many : ℕ) (ranks steps wants : List ℕ) (r : ℕ) : Type 0 where
  pub number : ℕ
  pub there : number < many
  pub none_left : get_or wants (entry_at file (place + 3 * number)) 0 ≡ 0
  pub leads : Leads ranks (get_or steps (entry_at file (place + 3 * number)) 0) r

-- r is the rank of the next action of a variable whose bit is set
pub record Woken (some : ℕ) (ranks steps state : List ℕ) (r : ℕ) : Type 0 where
  pub var : ℕ
  pub there : bit some var ≡ true
  pub leads : Leads ranks (step_of steps state var) r

-- ---- what keeps a look in range

-- v's entry is in the table, and its step's action has a rank
pub record Placed (ranks steps state : List ℕ) (v : ℕ) : Type 0 where
  pub low : v < 32
  pub narrow : get_or state v 0 < 16
  pub ranked : step_of steps state v < length ranks + 2
