-- A study whose walk actions are to be taken: what its conditions want is counted, and the list that seed 1 draws ranks its actions.
-- Assumes nothing.
use mathlib.Core.Path.{◌≡◌, refl}
use mathlib.Core.List.{List}
use Prim.Native.Nat.{ℕ, ◌+◌, ◌*◌, ◌≤◌, ◌<◌}
use native.Mathlib.Omega.{arith}
use lib.ListN.{length, get_or, take, replicate}
use Rattle.draw.specs.Draw.{draw_leaves}
use Rattle.draw.proofs.Drawn.{drawn_is_rank_list}
use Rattle.ranks.specs.Ranks.{RankList}
use Rattle.study.specs.Study.{Study}
use Rattle.tables.specs.Tables.{ActionTables}
use Rattle.walks.specs.Walks.{Met}
use Rattle.planning.proofs.Bars.{off_bars_met}
use Rattle.tracing.specs.Facts.{Wishes}
use Rattle.tracing.specs.Steps.{Rowed, Members}
use Rattle.wanting.specs.Wanting.{Counts, WantsAll}
use Rattle.std.specs.Prelude.{Result, Ok, Err}
use Rattle.wanting.specs.declared.Off.{Off}
use Rattle.wanting.proofs.Told.{told}
use Rattle.stages.specs.Whole.{WantsCounted}
use Rattle.stages.proofs.Stages.{held_wishes, held_deeds}
use Rattle.stages.proofs.Drawing.{drawn-stands}
use Rattle.stranding.specs.Left.{Untaken}

-- the front of the ranks, as seed 1 leaves them, is a rank list
pub front_list : (a : ℕ) → a ≤ 256 → (ranks : List ℕ) → ranks ≡ draw_leaves 1 a (replicate 256 0) → RankList a (take a ranks)
front_list a few ranks leaves =
    rw (drawn-stands 1 a (omega arith) (omega arith) few (replicate 256 0) ranks few leaves) (drawn_is_rank_list 1 a)

-- where every condition is on its walk, the pass over the conditions came to its end
counts_all : {t : Study} (wants : List ℕ) (r : Result (Unit {0}) Off) → Met t → WantsAll t wants r → (list : List ℕ) → Members t list → Counts t list wants
counts_all wants (Ok tt) met w = w.1
counts_all wants (Err o) met w = absurd (off_bars_met w met)

module _
    {file : List ℕ} {n a total : ℕ} {acts : ActionTables} {starts steps : List ℕ} {t : Study}
    (untaken : Untaken file n a total acts starts steps t)
  where
    pub untaken_wishes : Wishes file a acts.vars acts.pres acts.places acts.manys t
    untaken_wishes = held_wishes untaken.orderly.lawful untaken.actions

    pub untaken_rowed : Rowed t (length t.tasks) steps
    untaken_rowed = rw (← untaken.variables) untaken.rowed

    -- each action's variable and pre have an entry in the table of steps
    pub untaken_in_table : (i : ℕ) → i < a → 16 * get_or acts.vars i 0 + get_or acts.pres i 0 < 512
    untaken_in_table i h = (told untaken_wishes i h refl refl).inside

    module _ {ranks : List ℕ} (list : RankList a ranks) where
      pub untaken_list : RankList (length t.actions) ranks
      untaken_list = rw untaken.actions.count at list

      pub untaken_counted :
          (wants : List ℕ) (r : Result (Unit {0}) Off) → WantsAll t wants r
          → WantsCounted file n (length ranks) total acts.vars acts.posts acts.places acts.manys starts steps wants t
      untaken_counted wants r counted = record {
        orderly = untaken.orderly;
        variables = untaken.variables;
        deeds = rw list.an_entry_for_each (held_deeds untaken.orderly.lawful untaken.actions);
        tells_starts = untaken.tells_starts;
        rowed = untaken.rowed;
        wanted = counts_all wants r untaken.orderly.met counted;
      }
