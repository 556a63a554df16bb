-- What holds at each turn of `comparing::tie_all`.
-- Assumes nothing.
use mathlib.Core.Path.{◌≡◌}
use lib.ListN.{length}
use Rattle.tying.specs.Tying.{Tied}
use Rattle.listing.proofs.Linking.{PassedTo}
use Rattle.comparing.specs.Comparing.{ListedIn}
use Rattle.comparing.proofs.tie_all.Given as goal

abbrev pub invariant-loop-k : goal.invariant-loop-k
invariant-loop-k l = (length l.ties ≡ 64) × PassedTo l.pairs (λ list. ListedIn list l.members) (Tied l.ties) l.k
