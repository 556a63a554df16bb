-- The test of a rank list, for refusal 9: wrong length; or the first entry that is A or more, or repeats an earlier one.
-- Assumes nothing.
use Rattle.std.specs.Prelude.{ℕ, ◌+◌, Bool, false, ◌||◌, List, [], ◌∷◌, leb, eqb, length, Result, Ok, Err}
use Rattle.plain.specs.Choose.{pick}
use Rattle.ranking.specs.declared.Unranked.{Unranked}
use Rattle.ranking.specs.declared.Unranked.TheVariants.{Length, Entry}

-- what the test of a list finds
abbrev pub Tested : Type 0
Tested = Result (Unit {0}) Unranked

unfoldable pub among : List ℕ → ℕ → Bool
among [] x = false
among (y ∷ rest) x = eqb y x || among rest x

-- the entries from number k on, after the earlier ones
unfoldable pub tested_from : ℕ → List ℕ → ℕ → List ℕ → Tested
tested_from actions earlier k [] = Ok tt
tested_from actions earlier k (x ∷ rest) = pick (leb actions x || among earlier x) (Err (Entry k)) (tested_from actions (x ∷ earlier) (k + 1) rest)

unfoldable pub tested : List ℕ → ℕ → Tested
tested ranks actions = pick (eqb (length ranks) actions) (tested_from actions [] 0 ranks) (Err Length)
