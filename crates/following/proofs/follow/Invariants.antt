-- What holds at each turn of `following::follow`.
-- Assumes nothing.
use Prim.Native.Nat.{◌*◌}
use Rattle.following.proofs.Turns.{Turn}
use Rattle.following.proofs.follow.Given as goal

abbrev pub invariant-loop-k : goal.invariant-loop-k
invariant-loop-k l = Turn l.file l.actions l.acts l.log l.initial.state (4 * l.k) l.one l.held l.last l.state
