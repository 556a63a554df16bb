-- `telling::print_refusal` keeps within its buffer: a refusal's line has 71 bytes at most.
-- Assumes nothing.
use mathlib.Core.Path.{sym}
use native.Mathlib.Omega.{arith}
use lib.Seq.{length-take-le}
use Rattle.telling.proofs.print_refusal.Goals as goal

pub slice_bounds-write_all-end : goal.slice_bounds-write_all-end
slice_bounds-write_all-end c =
    sym (length-take-le c.refused-n.result c.refused-n.new.out (omega (arith, c.refused-n.ensures.0, c.refused-n.auto.out)))
