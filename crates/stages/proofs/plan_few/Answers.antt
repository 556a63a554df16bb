-- `stages::plan_few` meets its contract: a condition off its walk is refusal 11, else the actions are taken by rank.
-- Assumes nothing.
use mathlib.Core.Path.{refl}
use native.Mathlib.Omega.{arith}
use Rattle.plain.proofs.Lists.{all_zeros}
use Rattle.stages.proofs.Stages.{list_apart, walking_ranks, walking_off, walking_orderly}
use Rattle.stages.proofs.Few.{walking_orderable, rank_below}
use Rattle.stages.proofs.plan_few.Goals as goal

pub order_all-found-requires : goal.order_all-found-requires
order_all-found-requires c =
    let (t, n, walking) = c.requires.2 in
    (refl, c.requires.1, refl, λ i h. omega (arith, rank_below (walking_ranks walking) i h, c.requires.1), (t, walking_orderable walking))

pub returns-in-Err-clause-in_room : goal.returns-in-Err-clause-in_room
returns-in-Err-clause-in_room c = λ t n walking.
    let off = c.in-Err.ensures.orders_all t (walking_orderable walking) (list_apart (walking_ranks walking)) (all_zeros 64) in
    rw c.unmet.ensures (walking_off walking off)

pub take_few-taken-requires : goal.take_few-taken-requires
take_few-taken-requires c =
    let (t, n, walking) = c.requires.2 in
    let (met, ordered) = c.in-Ok.ensures.orders_all t (walking_orderable walking) (list_apart (walking_ranks walking)) (all_zeros 64) in
    (c.requires.0, c.requires.1, (t, walking_ranks walking, walking_orderly walking met, ordered))

pub returns-clause-in_room : goal.returns-clause-in_room
returns-clause-in_room c = λ t n walking.
    let (met, ordered) = c.in-Ok.ensures.orders_all t (walking_orderable walking) (list_apart (walking_ranks walking)) (all_zeros 64) in
    c.finish.ensures t _ _ c.take_few-taken.ensures.upper_bound.1 (c.take_few-taken.ensures.taken t (walking_ranks walking) (walking_orderly walking met) ordered)
