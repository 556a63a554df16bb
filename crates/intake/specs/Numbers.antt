-- Numbers of two bytes, of four and of eight, most significant first.
-- Assumes nothing.
use Rattle.std.specs.Prelude.{ℕ, ◌+◌, ◌*◌, List, get_or}

abbrev pub pair_at : List ℕ → ℕ → ℕ
pair_at input at = 256 * get_or input at 0 + get_or input (at + 1) 0

abbrev pub four_at_lem : List ℕ → ℕ → ℕ
four_at_lem input at = 65536 * pair_at input at + pair_at input (at + 2)

abbrev pub eight_at_lem : List ℕ → ℕ → ℕ
eight_at_lem input at = 4294967296 * four_at_lem input at + four_at_lem input (at + 4)
