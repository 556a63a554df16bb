-- `explain::print_crew` keeps within its buffer: a crew's line has 26 bytes at most.
-- Assumes nothing.
use mathlib.Core.Path.{sym}
use native.Mathlib.Omega.{arith}
use lib.Seq.{length-take-le}
use Rattle.explain.proofs.print_crew.Goals as goal

pub slice_bounds-write_all-end : goal.slice_bounds-write_all-end
slice_bounds-write_all-end c =
    sym (length-take-le c.crew-n.result c.crew-n.new.out (omega (arith, c.crew-n.ensures.0, c.crew-n.auto.out)))
