-- What the program's input stands for: a crew, a start floor, a rank list, rides, and a study file.
-- Assumes nothing.
use Rattle.std.specs.Prelude.{ℕ, suc, ◌+◌, ◌*◌, ◌-◌, List, take, drop}
use Rattle.lawful.specs.Lengths.{longest_file}
use Rattle.intake.specs.Numbers.{pair_at}

-- a head of 8 bytes, two lists of 65,535 at most, and one byte more than the longest file has
abbrev pub input_length : ℕ
input_length = 8 + 2 * 65535 + suc longest_file

-- two journeys for each of 256 steps, three bytes each
abbrev pub most_bytes : ℕ
most_bytes = 3 * (2 * 256)

-- what came behind the head, of n bytes that came
abbrev pub behind_head : ℕ → List ℕ → List ℕ
behind_head n input = take (n - 8) (drop 8 input)

abbrev pub crew_in : List ℕ → ℕ
crew_in input = pair_at input 4

abbrev pub start_in : List ℕ → ℕ
start_in input = pair_at input 6

-- of it as many bytes as are announced, or as came; the next; and the rest
abbrev pub ranks_in : ℕ → List ℕ → List ℕ
ranks_in n input = take (pair_at input 0) (behind_head n input)

abbrev pub rides_in : ℕ → List ℕ → List ℕ
rides_in n input = take (pair_at input 2) (drop (pair_at input 0) (behind_head n input))

abbrev pub file_in : ℕ → List ℕ → List ℕ
file_in n input = drop (pair_at input 0 + pair_at input 2) (behind_head n input)
