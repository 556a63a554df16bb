-- Few actions: what comes directly before each by rank is what comes before it, so what is taken by rank is taken greedily.
-- Assumes nothing.
use mathlib.Core.Path.{◌≡◌}
use mathlib.Core.List.{List}
use Prim.Native.Nat.{ℕ, ◌<◌}
use native.Mathlib.Omega.{arith}
use lib.ListN.{length, get_or, take, drop}
use Rattle.ranks.specs.Ranks.{RankList, Turned}
use Rattle.ranks.proofs.Entries.{entry_of_rank_list_below}
use Rattle.study.specs.Study.{Study}
use Rattle.tables.specs.Tables.{ActionTables}
use Rattle.orders.specs.Orders.{Counted}
use Rattle.orders.proofs.Renamed.{Ranked, greedy_renamed, counted_renamed}
use Rattle.walks.specs.Walks.{OnAWalk, ComesBefore}
use Rattle.walks.proofs.Leads.{on_walk_usable}
use Rattle.ordering.specs.Ordering.{Ordered, Orderable}
use Rattle.hanging.specs.Hanging.{InWord, DirectlyBefore, TakenByName}
use Rattle.taking.specs.Taking.{TakenGreedily}
use Rattle.stages.specs.Whole.{Walking, Orderly}
use Rattle.stages.proofs.Stages.{walking_wishes, walking_rowed, own_length}

module _
    {file ranks : List ℕ} {n total : ℕ} {acts : ActionTables} {starts steps : List ℕ} {t : Study}
    (walking : Walking file ranks n total acts starts steps t)
  where
    pub walking_orderable : Orderable file (length ranks) acts.vars acts.pres acts.places acts.manys starts acts.setters steps t
    walking_orderable = record {
      wishes = walking_wishes walking;
      names = walking.setters;
      starts = rw (← walking.variables) walking.tells_starts;
      rowed = walking_rowed walking;
    }

-- a rank is less than there are actions
pub rank_below : {ranks : List ℕ} {a : ℕ} → RankList a ranks → (i : ℕ) → i < length ranks → get_or ranks i 0 < length ranks
rank_below list = entry_of_rank_list_below (own_length list)

module _
    {t : Study} {total : ℕ} {ranks : List ℕ} (orderly : Orderly total t) (list : RankList (length t.actions) ranks)
    {members : ℕ} {words names : List ℕ} (ordered : Ordered t ranks members words) (turned : Turned ranks names)
  where
    as_many : length ranks ≡ length t.actions
    as_many = list.an_entry_for_each

    by_rank : Ranked (OnAWalk t) (InWord members) (ComesBefore t) (DirectlyBefore words) (λ i. get_or ranks i 0) (λ r. get_or names r 0)
    by_rank = record {
      there = ordered.member;
      back = ordered.only_members;
      named = λ x m. (turned.inverse x (omega (arith, on_walk_usable m, as_many))).1;
      comes = ordered.complete;
      came = ordered.sound;
    }

    pub members_counted : Counted (InWord members) total
    members_counted =
        counted_renamed by_rank record {
          list = orderly.list;
          once = orderly.members.once;
          all = orderly.members.all;
          only = orderly.members.only;
          long = orderly.counted;
        }

    pub taken_greedily : {k : ℕ} {room : List ℕ} → TakenByName members words names k room → TakenGreedily t ranks (take k (drop 256 room))
    taken_greedily by_name = rw by_name.named (greedy_renamed by_rank by_name.list by_name.greedy)
