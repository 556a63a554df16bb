-- `weighing::weigh_orders` meets its contract: every variable has a walk, so all are entered, and every condition is on its walk.
-- Assumes nothing.
use mathlib.Core.Path.{refl}
use Rattle.walks.proofs.Ordered.{straight_walks, straight_met}
use Rattle.stages.proofs.Stages.{walks_rowed, known_walkable, known_walked}
use Rattle.weighing.proofs.Known.{known_orderable}
use Rattle.weighing.proofs.weigh_orders.Goals as goal

pub walk_all-requires : goal.walk_all-requires
walk_all-requires c =
    let (t, x, known, plannable) = c.requires in
    (refl, known_walkable known)

pub lowest-requires : goal.lowest-requires
lowest-requires c =
    let (t, x, known, plannable) = c.requires in
    let walks = straight_walks known.lawful plannable.1 in
    (t, known_orderable known (walks_rowed c.walk_all.result walks (known_walked known (c.walk_all.ensures.walks_all t))))

pub returns : goal.returns
returns c t x known plannable =
    let walks = straight_walks known.lawful plannable.1 in
    let rowed = walks_rowed c.walk_all.result walks (known_walked known (c.walk_all.ensures.walks_all t)) in
    c.lowest.ensures t (known_orderable known rowed) (straight_met known.lawful plannable.1)
