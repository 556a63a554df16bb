-- `marking::put_before` meets its contract: a step of 2 and more names the action that leaves the value.
-- Assumes nothing.
use Prim.Native.Nat.{◌-◌, ◌<◌}
use native.Mathlib.Omega.{arith}
use lib.ListN.{get_or}
use Rattle.marking.proofs.Marks.{end_unmarked, leaver_marked}
use Rattle.marking.proofs.put_before.Goals as goal
use Rattle.marking.proofs.put_before.Goals.{Then-step-gt1}

-- the leaver's rank is that of a word
low : (f : Then-step-gt1) → get_or f.args.ranks.now (f.args.step - 2) 0 < 64
low f = f.requires.2 (f.args.step - 2) (omega arith)

pub bounds-before-l : goal.bounds-before-l
bounds-before-l c = omega (arith, c.wide-l.ensures.0, low (goal.at.bounds-before-l c).Then-step-gt1)

pub with_bit-requires : goal.with_bit-requires
with_bit-requires c = omega (arith, low (goal.at.with_bit-requires c).Then-step-gt1)

pub bounds-before-l-then-step-gt1 : goal.bounds-before-l-then-step-gt1
bounds-before-l-then-step-gt1 c = omega (arith, c.wide-l.ensures.0, low (goal.at.bounds-before-l-then-step-gt1 c).Then-step-gt1)

pub returns-then-step-gt1 : goal.returns-then-step-gt1
returns-then-step-gt1 c =
    leaver_marked c.args.step c.args.rank c.args.ranks.now c.args.before.now c.requires.0 c.wide-l.result c.with_bit.result
    (omega arith) c.wide-l.ensures.0 (omega (arith, c.wide-l.ensures.0, low (goal.at.returns-then-step-gt1 c).Then-step-gt1)) c.with_bit.ensures

pub returns-else-step-gt1 : goal.returns-else-step-gt1
returns-else-step-gt1 c =
    end_unmarked c.args.step c.args.rank c.args.ranks.now c.args.before.now c.requires.0 (omega arith)
