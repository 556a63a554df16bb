-- What an occupant waits for, as the last bytes of its record.
-- Assumes nothing.
use Rattle.std.specs.Prelude.{ℕ, List, [], ◌∷◌, Option, None, Some}
use Rattle.barring.specs.declared.Want.{Want}
use Rattle.replaying.specs.declared.leaves.Told.{Told}

abbrev pub told_of : Option Want → Told
told_of None = record { waits = 0; var = 0; value = 0 }
told_of (Some want) = record { waits = 1; var = want.var; value = want.value }

-- and a spare byte
abbrev pub told_bytes : Told → List ℕ
told_bytes told = told.waits ∷ told.var ∷ told.value ∷ 0 ∷ []
