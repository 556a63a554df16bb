-- The definition's stance as the code gives it: what is waited for, if anything is.
-- Assumes nothing.
use Rattle.std.specs.Prelude.{Option, None, Some}
use Rattle.replays.specs.Replay.{Stance, idle, waits_for}
use Rattle.barring.specs.declared.Want.{Want}

abbrev pub stance_of : Stance → Option Want
stance_of idle = None
stance_of (waits_for v q) = Some (record { var = v; value = q })
