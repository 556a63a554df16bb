-- What holds at each turn of `hanging::take_looking`.
-- Assumes nothing.
use mathlib.Core.List.{List}
use Prim.Native.Nat.{ℕ}
use Rattle.hanging.proofs.Left.{Left}
use Rattle.hanging.proofs.Named.{Named}
use Rattle.hanging.proofs.take_looking.Given as goal

abbrev pub invariant-loop-k : goal.invariant-loop-k
invariant-loop-k l = (list : List ℕ) × (Left l.members l.before l.left list × Named l.initial.room l.room list l.k)
