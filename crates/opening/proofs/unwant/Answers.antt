-- `opening::unwant` meets its contract: each turn lowers the entry of the next condition, and puts in the rank of the action that leaves its value if it was the last.
-- Assumes nothing.
use mathlib.Core.Path.{◌≡◌}
use Prim.Native.Nat.{◌+◌, ◌*◌}
use native.Mathlib.Omega.{arith}
use Rattle.opening.proofs.Lowering.{lowering_first, lowering_goes_on, lowering_ends}
use Rattle.opening.proofs.Freeing.{freed_last, freed_not}
use Rattle.opening.proofs.unwant.Goals.{then-left-eq0, else-left-eq0}
use Rattle.opening.proofs.unwant.Goals as goal

pub loop-k-preserved : goal.loop-k-preserved
loop-k-preserved c =
    let i = c.loop-k.invariant in
    let h = c.loop-k-test.true in
    let e = c.from-in-loop-k.ensures in
    let f = c.from-in-loop-k-2.ensures in
    let at : c.args.place + 3 * c.from.result ≡ c.args.place + 3 * c.loop-k.k = omega (arith, c.from.ensures) in
    let inside = rw (← i.0.long) at (lowering_first i.0 h _ at).1 in
    rw (e, f) (
      lowering_goes_on i.0 h _ at,
      elim c.if-left-eq0.branch [
        | then-left-eq0 w ↦ rw w.opened-is (freed_last _ _ _ _ _ _ at inside i.1 (rw (e, f) at w.if-left-eq0.true) (rw (e, f) at w.open_step.ensures))
        | else-left-eq0 w ↦ rw w.opened-is (freed_not _ _ _ _ _ _ at inside i.1 (rw (e, f) at w.if-left-eq0.false))
      ],
    )

pub returns : goal.returns
returns c =
    let i = c.loop-k.invariant in
    let all : c.loop-k.k ≡ c.args.many = omega (arith, i.0.within, c.loop-k-test.false) in
    (lowering_ends i.0 c.loop-k-test.false, rw all at i.1)
