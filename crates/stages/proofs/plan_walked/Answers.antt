-- `stages::plan_walked` meets its contract: planning goes on by how many actions there are.
-- Assumes nothing.
use Rattle.stages.proofs.plan_walked.Goals as goal

pub returns : goal.returns
returns c =
    let ensured = c.plan_few.ensures in
    record { room_len = ensured.room_len; in_room = λ t walking. ensured.in_room t _ walking }
