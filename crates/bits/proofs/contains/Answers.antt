-- `bits::contains` meets its contract: it asks the bit of the word that the definition asks.
-- Assumes nothing.
use borrow.Author.Rules.{rules}
use Rattle.bits.specs.Bits.{within}
use Rattle.bits.proofs.contains.Goals as goal

pub returns : goal.returns
unfolding within
returns c = search rules
