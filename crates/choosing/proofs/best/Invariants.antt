-- What holds at each turn of `choosing::best`.
-- Assumes nothing.
use Rattle.tables.specs.Rows.{var_column, place_column, many_column}
use Rattle.bits.specs.Bits.{within}
use Rattle.bits.proofs.Counted.{counted}
use Rattle.choosing.proofs.Picking.{Picking}
use Rattle.choosing.proofs.best.Given as goal

abbrev pub invariant-loop-r : goal.invariant-loop-r
invariant-loop-r l =
    Picking l.file (var_column l.acts) (place_column l.acts) (many_column l.acts) l.state l.room l.initial.held l.initial.opened l.initial.waiting l.held l.opened l.waiting

abbrev pub decreases-loop-r : goal.decreases-loop-r
decreases-loop-r l = counted (within l.opened) 256
