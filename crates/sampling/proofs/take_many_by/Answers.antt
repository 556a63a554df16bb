-- `sampling::take_many_by` meets its contract: the counts are a copy, and the list that the seed draws stands in the front of the ranks.
-- Assumes nothing.
use lib.ListN.{replicate}
use Rattle.sampling.proofs.Seeded.{actions_few, drawn_front, front_long, front_list, counted_list, counted_beside}
use Rattle.sampling.proofs.take_many_by.Goals as goal

pub slice_bounds-take_many-end : goal.slice_bounds-take_many-end
slice_bounds-take_many-end c =
    let (t, counted) = c.requires.4 in
    let few = actions_few counted.orderly counted.deeds.actions in
    front_long c.args.seed c.args.e.actions c.requires.2 c.requires.3 few (replicate 256 0) _ few c.draw.ensures.1

pub take_many-requires : goal.take_many-requires
take_many-requires c =
    let (t, counted) = c.requires.4 in
    let few = actions_few counted.orderly counted.deeds.actions in
    let list = front_list c.args.seed c.args.e.actions c.requires.2 c.requires.3 few (replicate 256 0) _ few c.draw.ensures.1 in
    (c.requires.1, c.requires.0, (t, counted_list counted list, counted_beside counted list))

pub returns : goal.returns
returns c =
    record {
      upper_bound = c.take_many.ensures.upper_bound;
      taken = λ t counted.
          let few = actions_few counted.orderly counted.deeds.actions in
          let list = front_list c.args.seed c.args.e.actions c.requires.2 c.requires.3 few (replicate 256 0) _ few c.draw.ensures.1 in
          let front = drawn_front c.args.seed c.args.e.actions c.requires.2 c.requires.3 few (replicate 256 0) _ few c.draw.ensures.1 in
          rw (front, counted.deeds.actions) at (c.take_many.ensures.taken t (counted_list counted list) (counted_beside counted list));
    }
