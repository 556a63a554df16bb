-- `listing::many_pairs` meets its contract: two bytes a pair, and one for a last byte that stands alone.
-- Assumes nothing.
use Rattle.listing.proofs.Pairs.{length_pairs}
use Rattle.listing.proofs.many_pairs.Goals as goal

pub returns : goal.returns
returns c = λ pairs e. rw (← e) (length_pairs pairs)
