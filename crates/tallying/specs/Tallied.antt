-- A row of the report from the entries of one position: how often each action is among them.
-- Assumes nothing.
use Rattle.std.specs.Prelude.{ℕ, ◌<◌, List, length, get_or}
use Rattle.ranks.specs.Ranks.{count}
use Rattle.varied.specs.Figures.{listed}

abbrev pub tallied : List ℕ → (actions : ℕ) → List ℕ
tallied entries actions = listed (λ i. count i entries) 0 actions

-- each entry is below this
abbrev pub AllBelow : ℕ → List ℕ → Type 0
AllBelow limit entries = (k : ℕ) → k < length entries → get_or entries k 0 < limit
