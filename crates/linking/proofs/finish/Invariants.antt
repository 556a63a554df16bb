-- What holds at each turn of `linking::finish`.
-- Assumes nothing.
use mathlib.Core.List.{List}
use Prim.Native.Nat.{ℕ, ◌+◌}
use Rattle.linking.proofs.Sets.{missing}
use Rattle.linking.proofs.Searching.{Going}
use Rattle.linking.proofs.finish.Given as goal

abbrev pub invariant-loop-depth : goal.invariant-loop-depth
invariant-loop-depth l =
    (list : List ℕ) × Going l.root l.initial.rows l.initial.done l.rows l.done l.path l.begun l.depth list

abbrev pub decreases-loop-depth : goal.decreases-loop-depth
decreases-loop-depth l = missing l.begun + missing l.done
