-- `following::follow` meets its contract. The loop's invariant: what is left of the log, from here, gives what all of it gives from the start.
-- Assumes nothing.
use mathlib.Core.Path.{◌≡◌, ◌∙◌}
use Prim.Native.Nat.{◌+◌, ◌*◌, ◌≤◌}
use lib.ListN.{length}
use Rattle.std.proofs.Common.{arith}
use Rattle.std.proofs.lemmas.Result.{err_from_is_err_and}
use Rattle.following.proofs.Halfway.{begins, refuses}
use Rattle.following.proofs.Turns.{turned, followed}
use Rattle.following.proofs.follow.Goals as goal

pub loop-k-init : goal.loop-k-init
loop-k-init c =
    record { early = omega arith; inside = omega arith; sum = omega arith; few = omega arith; halfway = λ t ready long starts. begins t _ long starts }

pub returns-in_err-event : goal.returns-in_err-event
returns-in_err-event c t ready long starts =
    let h = c.loop-k.invariant.halfway t ready long starts in
    let p = err_from_is_err_and c.from_residual.result c.from_residual.ensures.1 in
    rw (p.1, p.2) (refuses h _ (rw c.in_err-event.was at (c.look.ensures.by_index _ t h.progress ready h.place h.last_is)))

pub loop-k-preserved : goal.loop-k-preserved
loop-k-preserved c =
    let next : 4 * (c.loop-k.k + 1) ≡ 4 * c.loop-k.k + 4 = omega arith in
    rw (next, c.move_on.ensures, c.is_some.ensures)
    (turned c.loop-k.invariant c.in_ok-event.event c.in_ok-event.ensures.sound c.in_ok-event.ensures.by_index c.take-lack.result c.take-lack.ensures)

pub returns : goal.returns
returns c t ready long starts =
    let h = c.loop-k.invariant.halfway t ready long starts in
    let here : 4 * c.whole-many.result ≡ 4 * c.loop-k.k = omega (arith, c.loop-k-test.false, c.loop-k.auto.k-end) in
    let all : length c.args.log.now ≤ 4 * c.whole-many.result = rw c.in_ok-behind.was at (c.behind.ensures t h.progress (here ∙ h.place)) in
    followed c.loop-k.invariant (omega (arith, all, here)) t ready long starts
