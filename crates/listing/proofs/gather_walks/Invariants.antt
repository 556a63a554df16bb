-- What holds at each turn of `listing::gather_walks`.
-- Assumes nothing.
use Rattle.listing.proofs.Walking.{Underway}
use Rattle.listing.proofs.gather_walks.Given as goal

abbrev pub invariant-loop-i : goal.invariant-loop-i
invariant-loop-i l = Underway l.actions l.acts l.steps l.members l.i
