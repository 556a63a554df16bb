-- A fresh set of 256 bits has no member.
-- Assumes nothing.
use Rattle.bits.proofs.Members.{fresh_empty}
use Rattle.listing.proofs.sets.ArrayU644ActionSet.empty.Goals as goal

pub returns : goal.returns
returns c = fresh_empty 4
