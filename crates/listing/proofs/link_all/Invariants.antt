-- What holds at each turn of `listing::link_all`.
-- Assumes nothing.
use Rattle.linking.specs.Linking.{Linked, Shaped}
use Rattle.listing.specs.Listing.{SetOf}
use Rattle.listing.proofs.Linking.{PassedTo}
use Rattle.listing.proofs.link_all.Given as goal

abbrev pub invariant-loop-k : goal.invariant-loop-k
invariant-loop-k l = Shaped l.rows × PassedTo l.pairs (λ list. SetOf list l.listed) (Linked l.rows) l.k
