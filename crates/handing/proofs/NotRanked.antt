-- Planning with a list that is no rank list: refusal 9, as the test of the ranks tells it.
-- Assumes nothing.
use mathlib.Core.Path.{◌≡◌}
use mathlib.Core.List.{List}
use Prim.Native.Nat.{ℕ}
use lib.ListN.{length}
use Rattle.std.specs.Prelude.{Err}
use Rattle.ranking.specs.Ranking.{tested}
use Rattle.ranking.specs.declared.Unranked.{Unranked}
use Rattle.ranking.specs.declared.Unranked.TheVariants.{Length, Entry}
use Rattle.study.specs.Study.{Study}
use Rattle.planning.specs.Refusals.{not_ranked}
use Rattle.planning.specs.Planning.{Plans, wrong_length, wrong_entry}

pub not_ranked_lem :
    {t : Study} {ranks before : List ℕ} (fault : Unranked) → tested ranks (length t.actions) ≡ Err fault
    → Plans t ranks before (not_ranked (length ranks) (Err fault)) before
not_ranked_lem Length e = wrong_length e
not_ranked_lem (Entry k) e = wrong_entry e
