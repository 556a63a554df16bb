-- A crew at a place of the lent bytes: five bytes say it; fewer stand for one that takes all tasks that are left, and no byte of whose seed is lent.
-- Assumes nothing.
use Rattle.std.specs.Prelude.{ℕ, ◌+◌, ◌*◌, ◌≤◌, ◌<◌, ◌≡◌, Bool, true, false, List, length, get_or}
use Rattle.spelling.specs.Lent.{unlent, number}

-- by how many bytes of tasks are left, and whether it is lent whole
abbrev pub LentAs : List ℕ → ℕ → ℕ → ℕ → ℕ → Bool → Type 0
LentAs crews i left many n true =
    (i + 5 ≤ length crews)
    × (many ≡ get_or crews i 0)
    × (n ≡ number (get_or crews (i + 1) 0) (get_or crews (i + 2) 0) (get_or crews (i + 3) 0) (get_or crews (i + 4) 0))
    × (many < 256)
LentAs crews i left many n false = (length crews < i + 5) × (left ≤ 3 * many) × (3 * many ≤ left + 2) × (n ≡ number unlent unlent unlent unlent)
