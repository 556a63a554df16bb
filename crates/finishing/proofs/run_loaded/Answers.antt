-- `finishing::run_loaded` meets its contract: the room, the run, and the end state in the buffer after answer 0.
-- Assumes nothing.
use mathlib.Core.Path.{refl}
use Rattle.barring.proofs.Loaded.{prepared}
use Rattle.finishing.proofs.Finish.{room_too_short, left_alone, handed_over}
use Rattle.finishing.proofs.run_loaded.Goals as goal

pub returns-then-state-n : goal.returns-then-state-n
returns-then-state-n c crew setters (t, said, holds) =
    room_too_short (prepared crew _ _ said holds) crew said _ _ c.if-state-n.true c.refusal.ensures

pub run_from-ran-requires : goal.run_from-ran-requires
run_from-ran-requires c =
    let (crew, setters, (t, said, holds)) = c.requires in ((t, prepared crew _ _ said holds), c.set_out.ensures)

pub returns-in-Err : goal.returns-in-Err
returns-in-Err c crew setters (t, said, holds) =
    let known = prepared crew _ _ said holds in
    left_alone known crew said _ _ c.if-state-n.false (rw c.in-Err.is at (c.run_from-ran.ensures t known))

pub returns : goal.returns
returns c crew setters (t, said, holds) =
    let known = prepared crew _ _ said holds in
    handed_over known crew said _ _ c.if-state-n.false _ (rw c.in_default.is at (c.run_from-ran.ensures t known)) c.done.ensures (rw c.copy_from_slice.ensures.after refl)
