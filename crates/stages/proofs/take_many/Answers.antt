-- `stages::take_many` meets its contract: each variable is at its start, and what is taken is taken greedily.
-- Assumes nothing.
use mathlib.Core.Path.{refl}
use Rattle.stages.proofs.Stages.{list_apart, few_ranks, orderly_taken, counted_variables, counted_prepared}
use Rattle.stages.proofs.take_many.Goals as goal

pub set_out-requires : goal.set_out-requires
set_out-requires c =
    let (t, list, counted) = c.requires.2 in
    (counted_variables counted, refl)

pub name_all-requires : goal.name_all-requires
name_all-requires c =
    let (t, list, counted) = c.requires.2 in
    (few_ranks counted.orderly list, c.requires.1)

pub take_all-requires : goal.take_all-requires
take_all-requires c =
    let (t, list, counted) = c.requires.2 in (
      c.requires.0,
      c.set_out.ensures.long,
      c.name_all.ensures.names_len,
      (c.name_all.ensures.turned (list_apart list)).inverse,
      (t, counted_prepared counted _ c.set_out.ensures),
    )

pub returns : goal.returns
returns c =
    record { upper_bound = c.take_all.ensures.0; taken = λ t list counted. orderly_taken counted.orderly list _ _ (c.take_all.ensures.1 t (counted_prepared counted _ c.set_out.ensures)) }
