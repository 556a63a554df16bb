-- `trail::print_records` is safe and ends: it goes down with the records that are left.
-- Assumes nothing.
use mathlib.Core.Path.{refl, sym}
use Rattle.replaying.proofs.Forty.{still_forty}
use Rattle.trail.proofs.print_records.Goals as goal

pub slice_bounds-write_all-end : goal.slice_bounds-write_all-end
slice_bounds-write_all-end c =
    sym (still_forty _ _ _ _ c.replay_first.result _ refl c.replay_first.ensures)
