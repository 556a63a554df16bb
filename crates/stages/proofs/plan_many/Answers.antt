-- `stages::plan_many` meets its contract: a condition off its walk is refusal 11, else the actions are taken with what they want counted.
-- Assumes nothing.
use mathlib.Core.Path.{refl}
use Rattle.plain.proofs.Lists.{all_zeros}
use Rattle.stages.proofs.Stages.{walking_ranks, walking_wishes, walking_rowed, walking_off, walking_counted}
use Rattle.stages.proofs.plan_many.Goals as goal

pub want_all-requires : goal.want_all-requires
want_all-requires c =
    let (t, walking) = c.requires.1 in
    (refl, all_zeros 512, (t, walking_wishes walking))

pub returns-in-Err-clause-in_room : goal.returns-in-Err-clause-in_room
returns-in-Err-clause-in_room c = λ t walking.
    let off = rw c.in-Err.is at (c.want_all.ensures.wants_all t (walking_wishes walking) (walking_rowed walking)) in
    rw c.unmet.ensures (walking_off walking off)

pub take_many-taken-requires : goal.take_many-taken-requires
take_many-taken-requires c =
    let (t, walking) = c.requires.1 in
    let (met, counts) = rw c.in_default.is at (c.want_all.ensures.wants_all t (walking_wishes walking) (walking_rowed walking)) in
    (c.want_all.ensures.wants_len, c.requires.0, (t, walking_ranks walking, walking_counted walking _ met counts))

pub returns-clause-in_room : goal.returns-clause-in_room
returns-clause-in_room c = λ t walking.
    let (met, counts) = rw c.in_default.is at (c.want_all.ensures.wants_all t (walking_wishes walking) (walking_rowed walking)) in
    c.finish.ensures t _ _ c.take_many-taken.ensures.upper_bound.1 (c.take_many-taken.ensures.taken t (walking_ranks walking) (walking_counted walking _ met counts))
