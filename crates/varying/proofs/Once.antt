-- What is known once for all seeds: the walks, then what comes before what or what is wanted.
-- Assumes nothing.
use mathlib.Core.Path.{◌≡◌, subst}
use mathlib.Core.List.{List}
use Prim.Native.Nat.{ℕ, ◌*◌, ◌≤◌}
use native.Mathlib.Nat.{le_trans, mul-le-mul_left}
use native.Mathlib.Omega.{arith}
use lib.ListN.{length, length-replicate}
use Rattle.draw.specs.Draw.{drawn}
use Rattle.draw.proofs.Drawn.{drawn_is_rank_list}
use Rattle.ranking.proofs.Fine.{rank_list_is_fine}
use Rattle.study.specs.Study.{Study}
use Rattle.tables.specs.Tables.{ActionTables}
use Rattle.walks.specs.Walks.{Met}
use Rattle.planning.specs.Planning.{LowestOff, Plans, off_walk_lem}
use Rattle.planning.specs.Refusals.{off_walk}
use Rattle.tracing.specs.Facts.{Wishes}
use Rattle.tracing.specs.Steps.{Rowed, Members, WalksAll}
use Rattle.std.specs.Prelude.{Ok}
use Rattle.wanting.specs.Wanting.{Counts}
use Rattle.ordering.specs.Ordering.{Orderable}
use Rattle.renaming.specs.Renaming.{ByAction}
use Rattle.stages.specs.Whole.{Known, Orderly, WantsCounted}
use Rattle.stages.proofs.Stages.{rowed_walks, held_wishes, held_deeds}
use Rattle.varied.specs.Outcomes.{barred, any_room, ComesTo}
use Rattle.varied.proofs.Comes.{comes_to_lem, refusal-told}
use Rattle.keeping.specs.declared.Extent.{Extent}
use Rattle.sampling.specs.Once.{OrderedOnce}
use Rattle.sampling.proofs.Seeded.{actions_few, total_few}
use Rattle.varying.specs.Entered.{Entered}

-- the rows of a report have no more figures than that
pub figures_few :
    {total : ℕ} {t : Study} → Orderly total t → {actions : ℕ} → actions ≡ length t.actions → actions * total ≤ 65536
figures_few orderly {actions} is = le_trans (mul-le-mul_left actions (total_few orderly is)) (omega (arith, actions_few orderly is))

-- ---- from the walks

module _
    {file : List ℕ} {e : Extent} {acts : ActionTables} {starts steps : List ℕ} {t : Study}
    (entered : Entered file e acts starts steps t)
  where
    pub entered_wishes : Wishes file e.actions acts.vars acts.pres acts.places acts.manys t
    entered_wishes = held_wishes entered.lawful entered.actions

    pub entered_rowed : Rowed t (length t.tasks) steps
    entered_rowed = rw (← entered.variables) entered.rowed

    pub entered_orderable : Orderable file e.actions acts.vars acts.pres acts.places acts.manys starts acts.setters steps t
    entered_orderable = record {
      wishes = entered_wishes;
      names = entered.setters;
      starts = rw (← entered.variables) entered.tells_starts;
      rowed = entered_rowed;
    }

    pub entered_orderly : Met t → Orderly e.total t
    entered_orderly met = record {
      lawful = entered.lawful;
      walks = rowed_walks entered.variables entered.rowed;
      met = met;
      list = entered.list;
      members = entered.members;
      counted = entered.counted;
    }

    pub entered_once : {members : ℕ} {words : List ℕ} → Met t × ByAction t members words → OrderedOnce e members words t
    entered_once (met, own) = record { actions = entered.actions.count; orderly = entered_orderly met; by_action = own }

    pub entered_met :
        (wants : List ℕ) → Met t × ((list : List ℕ) → Members t list → Counts t list wants)
        → WantsCounted file e.vars e.actions e.total acts.vars acts.posts acts.places acts.manys starts steps wants t
    entered_met wants (met, counts) = record {
      orderly = entered_orderly met;
      variables = entered.variables;
      deeds = held_deeds entered.lawful entered.actions;
      tells_starts = entered.tells_starts;
      rowed = entered.rowed;
      wanted = counts;
    }

    -- a condition off its walk bars every seed
    pub off_comes : {i u : ℕ} → LowestOff t i u → (seed : ℕ) → ComesTo t seed (barred (off_walk i u))
    off_comes {i} {u} off seed =
        subst (ComesTo t seed) (refusal-told (off_walk i u) any_room (λ e. omega arith))
        (comes_to_lem entered.lawful seed (omega (arith, length-replicate {A = ℕ} 256 0)) answers)
      where
        answers : Plans t (drawn seed (length t.actions)) any_room (off_walk i u) any_room
        answers =
            off_walk_lem (rank_list_is_fine (drawn_is_rank_list seed (length t.actions))) (rowed_walks entered.variables entered.rowed) off

-- what is known and walked is entered
pub known_entered :
    {file : List ℕ} {x : ℕ} {acts : ActionTables} {starts goals steps : List ℕ} {t : Study} → (e : Extent)
    → Known file e.vars e.actions x acts starts goals t → WalksAll t e.vars steps (Ok e.total) → Entered file e acts starts steps t
known_entered e known (rowed, (list, (members, counted))) = record {
  lawful = known.lawful;
  variables = known.variables;
  actions = known.actions;
  setters = known.setters;
  tells_starts = known.tasks.start;
  rowed = rowed;
  list = list;
  members = members;
  counted = counted;
}
