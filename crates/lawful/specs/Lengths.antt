-- How many bytes a file has that says a roster, where its actions stand, and how many bytes the longest has.
-- Assumes nothing.
use Rattle.std.specs.Prelude.{ℕ, ◌+◌, ◌*◌, eqb, List, [], ◌∷◌, length}
use Rattle.plain.specs.Choose.{pick}
use Rattle.study.specs.Study.{Action, Crew, Roster, always}
use Rattle.study.specs.Reading.{Record, variable, action, condition, task, seed, end, times, present, crew}

-- a record is its kind and its body
abbrev pub bytes_of : Record → ℕ
bytes_of (variable n) = 2
bytes_of (action v p q) = 4
bytes_of (condition v q) = 3
bytes_of (task v p q) = 4
bytes_of (seed n) = 5
bytes_of end = 1
bytes_of (times n) = 2
bytes_of (present n) = 2
bytes_of crew = 1

-- a set of situations is written unless it has all eight, and the situation unless it is 0
abbrev pub bytes_of_times : ℕ → ℕ
bytes_of_times n = pick (eqb n always) 0 2

abbrev pub bytes_of_present : ℕ → ℕ
bytes_of_present n = pick (eqb n 0) 0 2

-- actions with their conditions and their situations
unfoldable pub bytes_of_actions : List Action → ℕ
bytes_of_actions [] = 0
bytes_of_actions (a ∷ rest) = 4 + 3 * length a.conditions + bytes_of_times a.situations + bytes_of_actions rest

-- where the records of actions stand, the first at a place
unfoldable pub places_from : ℕ → List Action → List ℕ
places_from at [] = []
places_from at (a ∷ rest) = at ∷ places_from (at + 4 + 3 * length a.conditions + bytes_of_times a.situations) rest

-- crews: the tasks and the seed of each, and behind them the opening of the next crew, or the end
unfoldable pub bytes_of_crews : List Crew → ℕ
bytes_of_crews [] = 0
bytes_of_crews (k ∷ rest) = 4 * length k.tasks + 5 + 1 + bytes_of_crews rest

-- the whole file: the situation, variables, actions and crews
unfoldable pub file_length : Roster → ℕ
file_length r = bytes_of_present r.situation + 2 * length r.counts + bytes_of_actions r.actions + bytes_of_crews r.crews

-- the situation, 32 variables, 256 actions with 31 conditions and their situations each, eight crews with 32 tasks and a seed each, the openings and the end: 26,482 bytes
abbrev pub longest_file : ℕ
longest_file = 2 + 2 * 32 + 256 * (4 + 3 * 31 + 2) + 8 * (4 * 32 + 5 + 1)
