-- `compose_call::compose` meets its contract: each list lies where the head says, within the input.
-- Assumes nothing.
use Prim.Native.Nat.{◌+◌}
use native.Mathlib.Omega.{arith}
use Rattle.compose_call.proofs.Handed.{handed}
use Rattle.compose_call.proofs.compose.Goals as goal

pub returns : goal.returns
returns c =
    let first = c.pair_at-actions.ensures.1 in
    let second = c.pair_at.ensures.1 in
    let third = c.pair_at-2.ensures.1 in
    let fourth = c.pair_at-3.ensures.1 in
    let fifth = c.pair_at-4.ensures.1 in
    let a = 11 + c.pair_at-actions.result in
    let b = a + c.pair_at.result in
    let k = b + c.pair_at-2.result in
    let t = k + c.pair_at-3.result in
    let e = t + c.pair_at-4.result in
    handed c.args.input.now _ _ c.write.result a b k t e
    (omega (arith, first))
    (omega (arith, first, second))
    (omega (arith, first, second, third))
    (omega (arith, first, second, third, fourth))
    (omega (arith, first, second, third, fourth, fifth))
    c.write.ensures
