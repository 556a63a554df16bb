-- `marking::with_setter` meets its contract: the rank is put in where the value is not the start.
-- Assumes nothing.
use Prim.Native.Nat.{◌<◌}
use lib.ListN.{length}
use Rattle.marking.proofs.Marks.{start_unmarked, setter_marked}
use Rattle.marking.proofs.with_setter.Goals as goal
use Rattle.marking.proofs.with_setter.Goals.{After-wide}

-- the value that is not the start has a setter
there : (w : After-wide) → w.wide.result < length w.args.ranks.now
there w = rw w.wide.ensures.0 (w.requires.2 w.if-q-start.false)

pub returns-then-q-start : goal.returns-then-q-start
returns-then-q-start c = let a = c.args in start_unmarked a.word a.q a.start _ c.if-q-start.true

pub bounds-ranks-wide : goal.bounds-ranks-wide
bounds-ranks-wide c = there (goal.at.bounds-ranks-wide c).After-wide

pub with_bit-requires : goal.with_bit-requires
with_bit-requires c = c.requires.1 c.wide.result (there (goal.at.with_bit-requires c).After-wide)

pub returns : goal.returns
returns c =
    let a = c.args in
    setter_marked a.word a.q a.start _ c.with_bit.result c.if-q-start.false (rw c.wide.ensures.0 at c.with_bit.ensures)
