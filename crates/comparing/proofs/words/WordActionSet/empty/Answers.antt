-- A fresh word has no member.
-- Assumes nothing.
use Rattle.bits.proofs.Words.{bit_zero}
use Rattle.comparing.proofs.words.WordActionSet.empty.Goals as goal

pub returns : goal.returns
returns c = bit_zero
