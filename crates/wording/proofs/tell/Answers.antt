-- `wording::tell` meets its contract: the words, the numbers and the line end, each after the last.
-- Assumes nothing.
use Rattle.std.proofs.Common.{arith, rules, append-nil}
use Rattle.telling.specs.Text.{line_end}
use Rattle.explained.specs.Facts.{all_spaced}
use Rattle.wording.proofs.Told.{number_put, numbers_put}
use Rattle.wording.proofs.tell.Goals as goal

pub loop-number-init : goal.loop-number-init
unfolding all_spaced
loop-number-init c = (omega (arith, c.put-next.ensures.place), search rules, rw append-nil c.put-next.ensures)

pub loop-number-preserved : goal.loop-number-preserved
loop-number-preserved c = (omega arith, search rules, number_put c.args.words.now c.args.numbers.now c.loop-number.number-index (omega arith) c.loop-number.invariant.2 (rw c.from.ensures at c.short-next.ensures.1))

pub returns-clause-appends : goal.returns-clause-appends
returns-clause-appends c = numbers_put c.args.words.now c.args.numbers.now line_end c.loop-number.number-index c.loop-number-test.false c.loop-number.invariant.2 c.put.ensures
