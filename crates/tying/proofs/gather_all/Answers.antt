-- `tying::gather_all` meets its contract: each turn closes the word of one entry more.
-- Assumes nothing.
use native.Mathlib.Omega.{arith}
use Rattle.tying.proofs.Closing.{closing_begins, closing_on, closing_ends}
use Rattle.tying.proofs.gather_all.Goals as goal

pub loop-k-init : goal.loop-k-init
loop-k-init c = closing_begins c.args.room.now c.args.words.now c.requires.2

pub offset_bounds-words-y : goal.offset_bounds-words-y
offset_bounds-words-y c = omega (arith, c.requires.3.low c.loop-k.k (omega arith))

pub bounds-words-y : goal.bounds-words-y
bounds-words-y c = omega (arith, c.requires.3.low c.loop-k.k (omega arith))

pub offset_bounds-words-y-in-loop-k : goal.offset_bounds-words-y-in-loop-k
offset_bounds-words-y-in-loop-k c = omega (arith, c.requires.3.low c.loop-k.k (omega arith))

pub bounds-words-y-in-loop-k : goal.bounds-words-y-in-loop-k
bounds-words-y-in-loop-k c = omega (arith, c.requires.3.low c.loop-k.k (omega arith))

pub loop-k-preserved : goal.loop-k-preserved
loop-k-preserved c = closing_on c.requires.3 c.loop-k.invariant (omega arith) c.gathered.ensures

pub returns : goal.returns
returns c = closing_ends c.requires.3 c.loop-k.invariant (omega arith)
