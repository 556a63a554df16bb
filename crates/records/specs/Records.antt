-- A record of a study file: one byte of kind, then a body whose length the kind fixes.
-- Assumes nothing.
use Rattle.std.specs.Prelude.{ℕ, ◌+◌, ◌-◌, Bool, ◌&&◌, List, [], ◌∷◌, leb, ltb, length, get_or, take, drop}
use Rattle.plain.specs.Choose.{pick}
use Rattle.records.specs.declared.Found.{Found}
use Rattle.records.specs.declared.Found.TheVariants.{There, Unknown, Cut, Ended}

-- body lengths by kind: none, variable, action, condition, task, seed, end, situations, situation, crew
unfoldable pub body_lengths : List ℕ
body_lengths = 0 ∷ 1 ∷ 3 ∷ 2 ∷ 3 ∷ 4 ∷ 0 ∷ 1 ∷ 1 ∷ 0 ∷ []

unfoldable pub body_length_lem : ℕ → ℕ
body_length_lem kind = get_or body_lengths kind 0

-- kinds 1 to 9
abbrev pub known : ℕ → Bool
known kind = leb 1 kind && leb kind 9

-- a record of this kind at a place, its body so long: whole, or cut by the file's end
abbrev pub bodied : ℕ → ℕ → ℕ → ℕ → Found
bodied len at kind body = pick (leb (at + 1 + body) len) (There kind (at + 1) (at + 1 + body)) (Cut kind at)

-- a record of this kind at a place inside the file
unfoldable pub record_of : List ℕ → ℕ → ℕ → Found
record_of file at kind = pick (known kind) (bodied (length file) at kind (body_length_lem kind)) (Unknown at)

-- the record at a place: there, of an unknown kind, cut by the file's end, or none since the file has ended
unfoldable pub record_at_lem : List ℕ → ℕ → Found
record_at_lem file at = pick (ltb at (length file)) (record_of file at (get_or file at 0)) (Ended (length file))

-- document 01's numbers for each case: 0, or the refusal 2 or 1
abbrev pub number_of : Found → ℕ
number_of (There kind start next) = 0
number_of (Unknown place) = 2
number_of (Cut kind place) = 1
number_of (Ended place) = 1

-- .. the kind that is answered, none where the record is not there
abbrev pub kind_of : Found → ℕ
kind_of (There kind start next) = kind
kind_of (Unknown place) = 0
kind_of (Cut kind place) = 0
kind_of (Ended place) = 0

-- .. where the body starts, or the place of the refusal
abbrev pub start_of : Found → ℕ
start_of (There kind start next) = start
start_of (Unknown place) = place
start_of (Cut kind place) = place
start_of (Ended place) = place

-- .. and the place after the record, or the place of the refusal
abbrev pub next_of : Found → ℕ
next_of (There kind start next) = next
next_of (Unknown place) = place
next_of (Cut kind place) = place
next_of (Ended place) = place

-- the part of the file between a start and the place after it
abbrev pub part : List ℕ → ℕ → ℕ → List ℕ
part file start next = take (next - start) (drop start file)

-- the body of the record at a place, empty where it is not there
abbrev pub body_at : List ℕ → ℕ → List ℕ
body_at file at = part file (start_of (record_at_lem file at)) (next_of (record_at_lem file at))
