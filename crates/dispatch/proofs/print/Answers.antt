-- `dispatch::print` keeps within its buffer: the journeys that were made lie in it.
-- Assumes nothing.
use mathlib.Core.Path.{refl, sym}
use Prim.Native.Nat.{◌*◌}
use native.Mathlib.Omega.{arith}
use lib.Seq.{length-take-le}
use Rattle.dispatch_call.proofs.Room.{journeys_fit}
use Rattle.dispatch.proofs.print.Goals as goal

pub overflow_mul-len : goal.overflow_mul-len
overflow_mul-len c =
    let fits = journeys_fit _ _ _ _ _ _ _ _ refl c.dispatch-answer.ensures c.if-answer-ne0.false in
    omega (arith, fits)

pub slice_bounds-journeys-end : goal.slice_bounds-journeys-end
slice_bounds-journeys-end c =
    let fits = journeys_fit _ _ _ _ _ _ _ _ refl c.dispatch-answer.ensures c.if-answer-ne0.false in
    omega (arith, fits, c.dispatch-answer.auto.journeys)

pub slice_bounds-write_all-end-3 : goal.slice_bounds-write_all-end-3
slice_bounds-write_all-end-3 c =
    let fits = journeys_fit _ _ _ _ _ _ _ _ refl c.dispatch-answer.ensures c.if-answer-ne0.false in
    sym (length-take-le (3 * c.dispatch-answer.result.first) c.dispatch-answer.new.journeys (omega (arith, fits, c.dispatch-answer.auto.journeys)))
