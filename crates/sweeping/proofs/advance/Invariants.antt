-- What holds at each turn of `sweeping::advance`.
-- Assumes nothing.
use Prim.Native.Nat.{ℕ, ◌-◌, ◌<◌}
use Rattle.sweeping.specs.Moving.{Guided, Moves}
use Rattle.sweeping.proofs.advance.Given as goal

abbrev pub invariant-loop-wants : goal.invariant-loop-wants
invariant-loop-wants l =
    (n : ℕ) → l.v < n → Guided l.file l.acts l.steps n l.initial.wants l.initial.state → Moves l.file l.acts l.steps n l.initial.wants l.initial.state l.k l.wants l.state

abbrev pub decreases-loop-wants : goal.decreases-loop-wants
decreases-loop-wants l = 256 - l.k
