-- What the program's input stands for: a crew, a first seed, how many seeds, and a study file.
-- Assumes nothing.
use Rattle.std.specs.Prelude.{ℕ, suc, ◌+◌, ◌*◌, ◌-◌, List, take, drop}
use Rattle.lawful.specs.Lengths.{longest_file}
use Rattle.intake.specs.Numbers.{eight_at_lem}

-- a head of 24 bytes, and one byte more than the longest file has
abbrev pub input_length : ℕ
input_length = 24 + suc longest_file

-- five figures, and for each of 256 positions a figure for each of 256 actions
abbrev pub longest_report : ℕ
longest_report = 5 + 256 * 256

abbrev pub crew_in : List ℕ → ℕ
crew_in input = eight_at_lem input 0

abbrev pub first_in : List ℕ → ℕ
first_in input = eight_at_lem input 8

abbrev pub count_in : List ℕ → ℕ
count_in input = eight_at_lem input 16

-- what came behind the head, of n bytes that came
abbrev pub file_in : ℕ → List ℕ → List ℕ
file_in n input = take (n - 24) (drop 24 input)
