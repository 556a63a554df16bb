-- What holds at each turn of `linking::close`.
-- Assumes nothing.
use mathlib.Core.Path.{◌≡◌}
use lib.ListN.{length}
use Rattle.linking.specs.Linking.{Shaped}
use Rattle.linking.specs.Passing.{Partly}
use Rattle.linking.proofs.Sets.{missing}
use Rattle.linking.proofs.close.Given as goal

abbrev pub invariant-loop-root : goal.invariant-loop-root
invariant-loop-root l =
    Shaped l.rows × (length l.done ≡ 4) × (length l.path ≡ 256) × Partly l.initial.rows l.rows l.done

abbrev pub decreases-loop-root : goal.decreases-loop-root
decreases-loop-root l = missing l.done
