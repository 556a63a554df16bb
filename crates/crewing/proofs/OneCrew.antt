-- The records of a crew at a place of the lent bytes, and those behind it: of the next crews, or the end where it is not lent whole.
-- Assumes nothing.
use Prim.Native.Nat.{ℕ, ◌+◌, ◌-◌, ◌*◌, ◌≤◌}
use mathlib.Core.Path.{◌≡◌}
use mathlib.Core.Bool.{Bool, true, false}
use mathlib.Core.List.{List, [], ◌∷◌, ◌++◌, map}
use native.Mathlib.Omega.{arith}
use lib.Dec.{eqb}
use lib.ListN.{length, drop, length-drop}
use Rattle.study.specs.Reading.{Record, seed, end}
use Rattle.spelling.specs.Lists.{task_record}
use Rattle.spelling.specs.Lent.{unlent_errand, first_of, errands_in, crews_in}
use Rattle.drafts.specs.Drafts.{opening_record, crews_to_come}
use Rattle.drafts.proofs.LentBytes.{to_come, crew_lent, crew_unlent}
use Rattle.crewing.specs.Crewing.{LentAs}

module _ (crews : List ℕ) (i : ℕ) (tasks : List ℕ) (used many : ℕ) where
  abbrev pub behind_it : Bool → List Record
  behind_it true = crews_to_come (i + 5) (crews_in (drop (i + 5) crews) (errands_in (drop (used + 3 * many) tasks)))
  behind_it false = end ∷ []

  pub crew_comes :
      (n : ℕ) (whole : Bool) → LentAs crews i (length tasks - used) many n whole → (length crews ≤ i → length tasks ≤ used → ⊥)
      → to_come crews i tasks used
      ≡ opening_record (eqb i 0) ++ (map task_record (first_of unlent_errand many (errands_in (drop used tasks))) ++ (seed n ∷ behind_it whole))
  crew_comes n true (here, many_is, seed-is, few) some = rw (many_is, seed-is) (crew_lent crews i tasks used here)
  crew_comes n false (cut, all, no_more, seed-is) some =
      let whole = length-drop used tasks in
      rw seed-is (crew_unlent crews i tasks used many cut some (omega (arith, whole)) (omega (arith, whole)))
