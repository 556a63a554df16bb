-- `comparing::lowest` meets its contract: the lowest number that some member lacks, and the lowest that lacks it.
-- Assumes nothing.
use Rattle.comparing.proofs.Wanting.{nothing_lacks, some_lacks, two_lack}
use Rattle.comparing.proofs.lowest.Goals as goal

pub returns-then-any-eq0 : goal.returns-then-any-eq0
returns-then-any-eq0 c =
    nothing_lacks c.args.members c.args.words.now c.args.ties.now c.common-any.result c.lacking_any.ensures c.common-any.ensures c.requires c.if-any-eq0.true

pub lowest_second-second-requires : goal.lowest_second-second-requires
lowest_second-second-requires c = (
  c.lowest-first.ensures.room,
  some_lacks c.args.members c.args.words.now c.args.ties.now c.common-any.result c.lacking_any.ensures c.common-any.ensures c.requires c.lowest-first.result c.lowest-first.ensures.there,
)

pub returns : goal.returns
returns c =
    two_lack c.args.members c.args.words.now c.args.ties.now c.common-any.result c.lacking_any.ensures c.common-any.ensures c.requires c.lowest-first.ensures c.lowest_second-second.ensures
