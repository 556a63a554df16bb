-- What holds at each turn of `listing::first_unusable`.
-- Assumes nothing.
use Rattle.tables.specs.Rows.{out_column}
use Rattle.listing.proofs.Usables.{UsableSoFar}
use Rattle.listing.proofs.first_unusable.Given as goal

abbrev pub invariant-loop-k : goal.invariant-loop-k
invariant-loop-k l = UsableSoFar l.list l.actions (out_column l.acts) l.k
