-- `sweeping::pass` meets its contract: each turn adds the moves of one more variable.
-- Assumes nothing.
use Prim.Native.Nat.{◌-◌}
use native.Mathlib.Omega.{arith}
use Rattle.sweeping.proofs.Moved.{passing_starts, passing_next, passing_ends, guided_on, few_moves}
use Rattle.sweeping.proofs.pass.Goals as goal

pub loop-v-init : goal.loop-v-init
loop-v-init c = passing_starts

pub advance-k-requires : goal.advance-k-requires
advance-k-requires c =
    (_, c.loop-v-test.true, guided_on c.requires c.loop-v.invariant.moves)

-- one more variable had its turn
pub loop-v-preserved : goal.loop-v-preserved
loop-v-preserved c =
    passing_next c.loop-v.invariant c.loop-v-test.true
    (c.advance-k.ensures _ c.loop-v-test.true (guided_on c.requires c.loop-v.invariant.moves))

pub overflow_add-k : goal.overflow_add-k
overflow_add-k c =
    omega (
      arith,
      few_moves c.requires ((passing_next c.loop-v.invariant c.loop-v-test.true
          (c.advance-k.ensures _ c.loop-v-test.true (guided_on c.requires c.loop-v.invariant.moves)))).moves,
    )

pub returns : goal.returns
returns c = passing_ends c.loop-v.invariant c.loop-v-test.false
