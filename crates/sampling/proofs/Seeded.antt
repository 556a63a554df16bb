-- What each seed's plan stands on: no more on walks than actions, the list that the seed draws, and the orders or counts under it.
-- Assumes nothing.
use mathlib.Core.Path.{◌≡◌, sym, ap, ◌∙◌}
use mathlib.Core.List.{List}
use Prim.Native.Nat.{ℕ, ◌≤◌, ◌<◌}
use native.Mathlib.Omega.{arith}
use lib.ListN.{length, take}
use Rattle.draw.specs.Draw.{drawn, draw_leaves}
use Rattle.draw.proofs.Drawn.{drawn_is_rank_list}
use Rattle.ranks.specs.Ranks.{RankList}
use Rattle.ranks.proofs.Placed.{rank_list_apart}
use Rattle.study.specs.Study.{Study}
use Rattle.orders.proofs.Lists.{distinct_below}
use Rattle.walks.proofs.Leads.{on_walk_usable}
use Rattle.marking.specs.Marking.{Ranked}
use Rattle.ordering.specs.Ordering.{Ordered}
use Rattle.renaming.specs.Renaming.{Below, Renamed, Reworded}
use Rattle.renaming.proofs.Ranked.{ranked_orders}
use Rattle.stages.specs.Whole.{Orderly, WantsCounted}
use Rattle.stages.proofs.Few.{rank_below}
use Rattle.stages.proofs.Drawing.{drawn-stands}
use Rattle.keeping.specs.declared.Extent.{Extent}
use Rattle.sampling.specs.Once.{OrderedOnce}

module _ {total : ℕ} {t : Study} (orderly : Orderly total t) {actions : ℕ} (is : actions ≡ length t.actions) where
  -- no more than there are actions are on walks
  pub total_within : total ≤ actions
  total_within =
      omega (
        arith,
        distinct_below orderly.list (length t.actions) orderly.members.once (λ x h. (on_walk_usable (orderly.members.only x h)).there),
        orderly.counted,
      )

  pub actions_few : actions ≤ 256
  actions_few = omega (arith, orderly.lawful.few_actions)

  pub total_few : total ≤ 256
  total_few = omega (arith, total_within, actions_few)

-- ---- the list that a seed draws

module _ (seed actions : ℕ) (low : 1 ≤ seed) (high : seed < 2147483647) (few : actions ≤ 256) (before ranks : List ℕ) (enough : actions ≤ length before)
    (leaves : ranks ≡ draw_leaves seed actions before) where
  pub drawn_front : take actions ranks ≡ drawn seed actions
  drawn_front = drawn-stands seed actions low (omega arith) few before ranks enough leaves

  pub front_long : actions ≡ length (take actions ranks)
  front_long = sym (ap length drawn_front ∙ (drawn_is_rank_list seed actions).an_entry_for_each)

  pub front_list : RankList actions (take actions ranks)
  front_list = rw drawn_front (drawn_is_rank_list seed actions)

-- few actions: their orders under a rank list
module _ {e : Extent} {members : ℕ} {words : List ℕ} {t : Study} (once : OrderedOnce e members words t) {ranks : List ℕ} (list : RankList e.actions ranks) where
  pub list_of : RankList (length t.actions) ranks
  list_of = rw once.actions at list

  pub members_below : Below (length ranks) members
  members_below i h = omega (arith, (on_walk_usable (once.by_action.only_members i h)).there, once.actions, list.an_entry_for_each)

  pub ranks_low : e.actions ≤ 64 → Ranked ranks
  ranks_low few i h = omega (arith, rank_below list i h, list.an_entry_for_each)

  pub once_ordered : {ranked : ℕ} {before : List ℕ} → Renamed ranks members ranked → Reworded members words ranks before → Ordered t ranks ranked before
  once_ordered = ranked_orders once.by_action (rank_list_apart list_of)

-- many: their counts beside a rank list
module _
    {file : List ℕ} {n a total : ℕ} {vars posts places manys starts steps wants : List ℕ} {t : Study}
    (counted : WantsCounted file n a total vars posts places manys starts steps wants t) {ranks : List ℕ} (list : RankList a ranks)
  where
    pub counted_list : RankList (length t.actions) ranks
    counted_list = rw counted.deeds.actions at list

    pub counted_beside : WantsCounted file n (length ranks) total vars posts places manys starts steps wants t
    counted_beside = rw (← list.an_entry_for_each) at counted
