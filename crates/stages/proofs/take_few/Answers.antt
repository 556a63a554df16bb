-- `stages::take_few` meets its contract: what is taken by rank is taken greedily.
-- Assumes nothing.
use Rattle.stages.proofs.Stages.{list_apart, orderly_few, few_ranks, orderly_taken}
use Rattle.stages.proofs.Few.{members_counted, taken_greedily}
use Rattle.stages.proofs.take_few.Goals as goal

pub name_all-requires : goal.name_all-requires
name_all-requires c =
    let (t, list, orderly, ordered) = c.requires.2 in
    (few_ranks orderly list, c.requires.0)

pub take-requires : goal.take-requires
take-requires c =
    let (t, list, orderly, ordered) = c.requires.2 in
    let turned = c.name_all.ensures.turned (list_apart list) in (
      orderly_few orderly,
      c.name_all.ensures.names_len,
      members_counted orderly list ordered turned,
    )

pub returns : goal.returns
returns c =
    record {
      upper_bound = c.take.ensures.upper_bound;
      taken = λ t list orderly ordered.
          orderly_taken orderly list _ _ (taken_greedily orderly list ordered (c.name_all.ensures.turned (list_apart list)) c.take.ensures.taken_by_name);
    }
