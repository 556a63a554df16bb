-- What the program's input stands for: a crew, an access log, and a study file.
-- Assumes nothing.
use Rattle.std.specs.Prelude.{ℕ, suc, ◌+◌, ◌*◌, ◌-◌, List, take, drop}
use Rattle.lawful.specs.Lengths.{longest_file}
use Rattle.replays.specs.Log.{most_events, event_length}
use Rattle.intake.specs.Numbers.{four_at_lem, eight_at_lem}

-- one event more than a log may have: what is refused of a longer one stands in these
abbrev pub longest_log : ℕ
longest_log = suc most_events * event_length

-- a head of 12 bytes, such a log, and one byte more than the longest file has
abbrev pub input_length : ℕ
input_length = 12 + longest_log + suc longest_file

abbrev pub crew_in : List ℕ → ℕ
crew_in input = eight_at_lem input 0

-- how long a log is announced
abbrev pub announced : List ℕ → ℕ
announced input = four_at_lem input 8

-- what came behind the head, of n bytes that came
abbrev pub behind_head : ℕ → List ℕ → List ℕ
behind_head n input = take (n - 12) (drop 12 input)

-- of it as many bytes as are announced, or as came; and the rest
abbrev pub log_in : ℕ → List ℕ → List ℕ
log_in n input = take (announced input) (behind_head n input)

abbrev pub file_in : ℕ → List ℕ → List ℕ
file_in n input = drop (announced input) (behind_head n input)
