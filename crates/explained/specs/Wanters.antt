-- Sets of actions, one for each value of each variable: those that want it.
-- Assumes nothing.
use Rattle.std.specs.Prelude.{ℕ, ◌+◌, ◌*◌, ◌<◌, ◌≡◌, Bool, false, ◌&&◌, List, [], ltb, length, get_or}
use Rattle.bits.specs.Bits.{within}
use Rattle.study.specs.Study.{Study}
use Rattle.walks.specs.Walks.{conditions_of}
use Rattle.wanting.specs.Wanting.{wants}

abbrev pub Sets : Type 0
Sets = List (List ℕ)

-- the set at 16 * v + q
abbrev pub set_at : Sets → ℕ → ℕ → List ℕ
set_at sets v q = get_or sets (16 * v + q) []

-- each set has its four words
abbrev pub InFours : Sets → Type 0
InFours sets = (j : ℕ) → j < 512 → length (get_or sets j []) ≡ 4

abbrev pub AllEmpty : Sets → Type 0
AllEmpty sets = (j i : ℕ) → within (get_or sets j []) i ≡ false

-- each set has those of the first n actions that are among some and want the value
abbrev pub Noted : Study → ℕ → (ℕ → Bool) → Sets → Type 0
Noted t n among sets =
    (v q i : ℕ) → v < 32 → q < 16 → i < 256 → within (set_at sets v q) i ≡ (ltb i n && (among i && wants (conditions_of t i) v q))
