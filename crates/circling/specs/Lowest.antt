-- The lowest of the actions on or after a ring that something is so of.
-- Assumes nothing.
use Rattle.std.specs.Prelude.{ℕ, ◌≤◌, ◌≡◌, ◌≢◌, true, List}
use Rattle.bits.specs.Bits.{within}
use Rattle.study.specs.Study.{Study}
use Rattle.explained.specs.Rings.{Stuck}

-- r is i, if that is in the set and lower than `low`
pub record LowerOf (left : List ℕ) (low i r : ℕ) : Type 0 where
  pub most : r ≤ low
  pub lower : within left i ≡ true → r ≤ i
  pub is : r ≢ low → (r ≡ i) × (within left i ≡ true)

-- r is the lowest of those that P is so of, if that is below `from`
pub record LowestBelow (t : Study) (P : ℕ → Type 0) (from r : ℕ) : Type 0 where
  pub most : r ≤ from
  pub lowest : (i : ℕ) → Stuck t i → P i → r ≤ i
  pub is : r ≢ from → Stuck t r × P r
