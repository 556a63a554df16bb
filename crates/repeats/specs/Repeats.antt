-- Where the first action stands that repeats an earlier one, in the file that lists stand for.
-- Assumes nothing.
use Rattle.std.specs.Prelude.{ℕ, zero, suc, ◌+◌, ◌*◌, ◌<◌, ◌≡◌, List, [], length, get_or, Option, Some, None}
use Rattle.std.proofs.Math.Option.{none, some}
use Rattle.study.specs.Study.{Action, action_at}
use Rattle.study.specs.Reading.{repeat_from}
use Rattle.lawful.specs.Lengths.{bytes_of_times, places_from}

-- an action with so many conditions, and its situations
abbrev pub entry_length_lem : ℕ → ℕ → ℕ
entry_length_lem set many = 4 + 3 * many + bytes_of_times set

-- where entry k stands, the first standing at a place
abbrev pub place_of : ℕ → List (List ℕ) → ℕ → ℕ
place_of front entries zero = front
place_of front entries (suc k) =
    place_of front entries k + entry_length_lem (get_or (get_or entries k []) 3 0) (get_or (get_or entries k []) 4 0)

-- actions whose variables and values are small enough for a mark each
abbrev pub Small : List Action → Type 0
Small actions = (i : ℕ) → i < length actions → ((action_at actions i).var < 32) × ((action_at actions i).post < 16)

-- the place of the first that repeats, or none does
abbrev pub Repeated : ℕ → ℕ → List Action → Option ℕ → Type 0
Repeated situation front actions None = Small actions → repeat_from situation [] actions ≡ none
Repeated situation front actions (Some place) =
    Small actions → (k : ℕ) × ((repeat_from situation [] actions ≡ some k) × (get_or (places_from front actions) k 0 ≡ place))
