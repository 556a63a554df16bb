-- Plans kept by position in lent bytes: what plan k has at position p stands at base + stride * p + k.
-- Assumes nothing.
use Rattle.std.specs.Prelude.{ℕ, ◌+◌, ◌*◌, ◌≤◌, ◌<◌, ◌≡◌, List, [], length, get_or}

-- plan k of some
abbrev pub plan_at : List (List ℕ) → ℕ → List ℕ
plan_at plans k = get_or plans k []

pub record Kept (region : List ℕ) (base stride len : ℕ) (plans : List (List ℕ)) : Type 0 where
  pub even : (k : ℕ) → k < length plans → length (plan_at plans k) ≡ len
  pub stands : (k p : ℕ) → k < length plans → p < len → get_or region (base + stride * p + k) 0 ≡ get_or (plan_at plans k) p 0

-- there is room for the rows
abbrev pub RoomFor : (base stride len : ℕ) → List ℕ → Type 0
RoomFor base stride len region = base + stride * len ≤ length region

-- what each of the first n plans has at each position is below this
abbrev pub KeptBelow : (limit n base stride len : ℕ) → List ℕ → Type 0
KeptBelow limit n base stride len region = (k p : ℕ) → k < n → p < len → get_or region (base + stride * p + k) 0 < limit
