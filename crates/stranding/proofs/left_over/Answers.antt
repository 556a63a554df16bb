-- `stranding::left_over` meets its contract: those on walks without those that were taken are those on or after a ring.
-- Assumes nothing.
use mathlib.Core.Path.{refl, sym}
use native.Mathlib.Omega.{arith}
use lib.ListN.{take}
use Rattle.ranks.specs.Ranks.{RankList}
use Rattle.plain.proofs.Lists.{all_zeros}
use Rattle.stages.proofs.Stages.{orderly_few}
use Rattle.stranding.proofs.Stuck.{left_just}
use Rattle.stranding.proofs.Counting.{front_list, untaken_wishes, untaken_rowed, untaken_in_table, untaken_list, untaken_counted}
use Rattle.stranding.proofs.left_over.Goals as goal
use Rattle.stranding.proofs.left_over.Goals.{After-draw}

-- the ranks that were drawn
ranks-there :
    (d : After-draw)
    → RankList d.args.actions (take d.args.actions d.draw.new.ranks)
ranks-there d =
    let (t, untaken) = d.requires.1 in
    front_list d.args.actions untaken.actions.few _ d.draw.ensures.1

pub want_all-requires : goal.want_all-requires
want_all-requires c = let (t, untaken) = c.requires.1 in (refl, all_zeros 512, (t, untaken_wishes untaken))

pub slice_bounds-take_many-end : goal.slice_bounds-take_many-end
slice_bounds-take_many-end c = sym (ranks-there (goal.at.slice_bounds-take_many-end c).After-draw).an_entry_for_each

pub take_many-taken-requires : goal.take_many-taken-requires
take_many-taken-requires c =
    let (t, untaken) = c.requires.1 in
    let list = ranks-there (goal.at.take_many-taken-requires c).After-draw in
    let wanted = c.want_all.ensures.wants_all t (untaken_wishes untaken) (untaken_rowed untaken) in
    (c.want_all.ensures.wants_len, refl, (t, untaken_list untaken list, untaken_counted untaken list _ c.want_all.result wanted))

pub gather-requires : goal.gather-requires
gather-requires c =
    let (t, untaken) = c.requires.1 in
    (c.requires.0, untaken.actions.few, untaken_in_table untaken)

pub take_out-requires : goal.take_out-requires
take_out-requires c =
    let (t, untaken) = c.requires.1 in
    (omega (arith, c.take_many-taken.ensures.upper_bound.0, orderly_few untaken.orderly), c.take_many-taken.ensures.upper_bound.1, c.gather.ensures.set_len)

pub returns : goal.returns
returns c =
    record {
      left_len = c.take_out.ensures.0;
      has_just = λ t untaken empty.
          let list = ranks-there (goal.at.returns c).After-draw in
          let wishes = untaken_wishes untaken in
          let rowed = untaken_rowed untaken in
          let counted = untaken_counted untaken list _ c.want_all.result (c.want_all.ensures.wants_all t wishes rowed) in
          let taken = c.take_many-taken.ensures.taken t (untaken_list untaken list) counted in
          left_just taken _ _ (c.gather.ensures.by_index _ t wishes rowed empty) c.take_out.ensures.1;
    }
