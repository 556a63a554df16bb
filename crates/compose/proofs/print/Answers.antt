-- `compose::print` keeps within its buffer: a file that was written lies in it.
-- Assumes nothing.
use mathlib.Core.Path.{sym}
use native.Mathlib.Omega.{arith}
use lib.Seq.{length-take-le}
use Rattle.compose_call.proofs.Handed.{written_fits}
use Rattle.compose.proofs.print.Goals as goal

pub compose-answer-requires : goal.compose-answer-requires
compose-answer-requires c = (omega arith, omega arith)

pub slice_bounds-file-end : goal.slice_bounds-file-end
slice_bounds-file-end c =
    omega (arith, written_fits _ _ _ _ _ _ _ _ _ c.if-answer-ne0.false c.compose-answer.ensures, c.compose-answer.auto.file)

pub slice_bounds-write_all-end-3 : goal.slice_bounds-write_all-end-3
slice_bounds-write_all-end-3 c =
    sym (length-take-le c.compose-answer.result.first c.compose-answer.new.file
    (omega (arith, written_fits _ _ _ _ _ _ _ _ _ c.if-answer-ne0.false c.compose-answer.ensures, c.compose-answer.auto.file)))
