-- The lists that the program's input stands for: a head that says how many bytes of each come, with the situation, and behind it those bytes.
-- Assumes nothing.
use Rattle.std.specs.Prelude.{ℕ, ◌+◌, ◌-◌, List, get_or, take, drop}
use Rattle.intake.specs.Numbers.{pair_at}

-- a head of 11 bytes, and five lists of 65,535 at most
abbrev pub input_length : ℕ
input_length = 327686

abbrev pub situation_in : List ℕ → ℕ
situation_in input = get_or input 10 0

-- where the lists begin, and where the last ends
abbrev pub actions_at : List ℕ → ℕ
actions_at input = 11 + pair_at input 0

abbrev pub conditions_at : List ℕ → ℕ
conditions_at input = actions_at input + pair_at input 2

abbrev pub crews_at : List ℕ → ℕ
crews_at input = conditions_at input + pair_at input 4

abbrev pub tasks_at : List ℕ → ℕ
tasks_at input = crews_at input + pair_at input 6

abbrev pub end_at : List ℕ → ℕ
end_at input = tasks_at input + pair_at input 8

-- the bytes from a place up to another
abbrev pub between : ℕ → ℕ → List ℕ → List ℕ
between from to input = take (to - from) (drop from input)

abbrev pub variables_in : List ℕ → List ℕ
variables_in input = between 11 (actions_at input) input

abbrev pub actions_in : List ℕ → List ℕ
actions_in input = between (actions_at input) (conditions_at input) input

abbrev pub conditions_in : List ℕ → List ℕ
conditions_in input = between (conditions_at input) (crews_at input) input

abbrev pub crews_in : List ℕ → List ℕ
crews_in input = between (crews_at input) (tasks_at input) input

abbrev pub tasks_in : List ℕ → List ℕ
tasks_in input = between (tasks_at input) (end_at input) input
