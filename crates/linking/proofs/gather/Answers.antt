-- `linking::gather` meets its contract: the rows of the numbers of the row are joined to a copy of it, word after word.
-- Assumes nothing.
use native.Mathlib.Omega.{arith}
use Rattle.linking.proofs.Sets.{all_passed}
use Rattle.linking.proofs.Gathering.{words_begin, words_on, words_end}
use Rattle.linking.proofs.gather.Goals as goal

pub loop-q-init : goal.loop-q-init
loop-q-init c = words_begin c.args.rows.now _ (c.requires.1.fours c.args.x c.requires.0)

pub gather_word-requires : goal.gather_word-requires
gather_word-requires c = (omega arith, c.requires.1, c.loop-q.invariant.long)

pub loop-q-preserved : goal.loop-q-preserved
loop-q-preserved c = words_on _ c.loop-q.q c.loop-q.invariant c.gather_word.ensures

pub returns : goal.returns
returns c =
    words_end c.requires.1 c.requires.0 (rw (all_passed c.loop-q.q (omega arith) (omega arith)) at c.loop-q.invariant)
