-- What holds at each turn of `hanging::take_hanging`.
-- Assumes nothing.
use mathlib.Core.Path.{◌≡◌}
use mathlib.Core.List.{List}
use Prim.Native.Nat.{ℕ}
use lib.ListN.{length}
use Rattle.hanging.proofs.Taken.{Going}
use Rattle.hanging.proofs.Named.{Named}
use Rattle.hanging.proofs.take_hanging.Given as goal

abbrev pub invariant-loop-k : goal.invariant-loop-k
invariant-loop-k l =
    (length l.hung ≡ 64) × ((list : List ℕ) × (Going l.members l.before l.left l.ready l.hung list × Named l.initial.room l.room list l.k))
