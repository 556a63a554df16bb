-- `sampling::take_few_by` meets its contract: what comes before what is put under the ranks that the seed draws.
-- Assumes nothing.
use mathlib.Core.Path.{refl}
use native.Mathlib.Omega.{arith}
use lib.ListN.{replicate}
use Rattle.plain.proofs.Lists.{all_zeros}
use Rattle.stages.proofs.Stages.{list_apart}
use Rattle.sampling.proofs.Seeded.{drawn_front, front_long, front_list, list_of, members_below, ranks_low, once_ordered}
use Rattle.sampling.proofs.take_few_by.Goals as goal

pub slice_bounds-rename_all-end : goal.slice_bounds-rename_all-end
slice_bounds-rename_all-end c =
    front_long c.args.seed c.args.e.actions c.requires.2 c.requires.3 (omega (arith, c.requires.1)) (replicate 64 0) _ c.requires.1 c.draw.ensures.1

pub rename_all-ranked-requires : goal.rename_all-ranked-requires
rename_all-ranked-requires c =
    let (t, once) = c.requires.4 in
    let list = front_list c.args.seed c.args.e.actions c.requires.2 c.requires.3 (omega (arith, c.requires.1)) (replicate 64 0) _ c.requires.1 c.draw.ensures.1 in
    (refl, members_below once list, ranks_low once list c.requires.1, list_apart list)

pub slice_bounds-take_few-end : goal.slice_bounds-take_few-end
slice_bounds-take_few-end c =
    front_long c.args.seed c.args.e.actions c.requires.2 c.requires.3 (omega (arith, c.requires.1)) (replicate 64 0) _ c.requires.1 c.draw.ensures.1

pub take_few-requires : goal.take_few-requires
take_few-requires c =
    let (t, once) = c.requires.4 in
    let list = front_list c.args.seed c.args.e.actions c.requires.2 c.requires.3 (omega (arith, c.requires.1)) (replicate 64 0) _ c.requires.1 c.draw.ensures.1 in (
      c.requires.0,
      omega (arith, list.an_entry_for_each, c.requires.1),
      (t, list_of once list, once.orderly, once_ordered once list c.rename_all-ranked.ensures.under_len.1 (c.rename_all-ranked.ensures.by_index (all_zeros 64))),
    )

pub returns : goal.returns
returns c =
    let list = front_list c.args.seed c.args.e.actions c.requires.2 c.requires.3 (omega (arith, c.requires.1)) (replicate 64 0) _ c.requires.1 c.draw.ensures.1 in
    let front = drawn_front c.args.seed c.args.e.actions c.requires.2 c.requires.3 (omega (arith, c.requires.1)) (replicate 64 0) _ c.requires.1 c.draw.ensures.1 in record {
      upper_bound = c.take_few.ensures.upper_bound;
      taken = λ t once.
          rw (front, once.actions) at
          (c.take_few.ensures.taken t (list_of once list) once.orderly
          (once_ordered once list c.rename_all-ranked.ensures.under_len.1 (c.rename_all-ranked.ensures.by_index (all_zeros 64))));
    }
