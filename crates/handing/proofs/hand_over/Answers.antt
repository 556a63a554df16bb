-- `handing::hand_over` meets its contract: a refusal is answered as it is, and a plan as the buffer has room for it.
-- Assumes nothing.
use native.Mathlib.Omega.{arith}
use Rattle.handing.proofs.HandedOver.{came_in_room, plan_within, refused_alike, too_long, handed}
use Rattle.handing.proofs.hand_over.Goals as goal

pub returns-then-planned-ne0 : goal.returns-then-planned-ne0
returns-then-planned-ne0 c t ranks lawful there =
    refused_alike _ (came_in_room lawful c.args.room.now c.requires.0 there) (omega arith)

pub returns-then-plan-total : goal.returns-then-plan-total
returns-then-plan-total c t ranks lawful there =
    rw c.refusal.ensures (too_long _ (came_in_room lawful c.args.room.now c.requires.0 there) c.if-planned-ne0.false c.if-plan-total.true)

pub copy_out-requires : goal.copy_out-requires
copy_out-requires c =
    let (t, ranks, lawful, there) = c.requires.1 in
    (plan_within (came_in_room lawful c.args.room.now c.requires.0 there) c.if-planned-ne0.false, omega arith, c.requires.0)

pub returns : goal.returns
returns c t ranks lawful there =
    rw c.copy_out.ensures (handed _ (came_in_room lawful c.args.room.now c.requires.0 there) c.if-planned-ne0.false (omega arith))
