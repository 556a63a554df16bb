-- `stages::plan_loaded` meets its contract: what planning came to in the room is handed over.
-- Assumes nothing.
use Rattle.stages.proofs.plan_loaded.Goals as goal

pub hand_over-requires : goal.hand_over-requires
hand_over-requires c =
    let (t, given) = c.requires.1 in
    (c.plan_in_room-planned.ensures.setters_len, (t, _, given.lawful, c.plan_in_room-planned.ensures.in_room t given))

pub returns : goal.returns
returns c t given =
    c.hand_over.ensures t _ given.lawful (c.plan_in_room-planned.ensures.in_room t given)
