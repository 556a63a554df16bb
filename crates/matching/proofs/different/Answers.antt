-- `matching::different` meets its contract: each turn counts one plan more, unless it comes again.
-- Assumes nothing.
use mathlib.Core.Path.{◌≡◌}
use mathlib.Core.Bool.{Bool, true, false, not}
use Prim.Native.Nat.{◌+◌, ◌≤◌}
use native.Mathlib.Omega.{arith}
use Rattle.ranks.specs.Ranks.{one}
use Rattle.matching.proofs.Differing.{different-next, different_none}
use Rattle.matching.proofs.different.Goals as goal
use Rattle.matching.proofs.different.Goals.{Joined-not-comes_again, then-not-comes_again, else-not-comes_again}

one_at_most : (b : Bool) → one b ≤ 1
one_at_most true = omega arith
one_at_most false = omega arith

-- one more is found, unless it comes again
found-more : (c : Joined-not-comes_again) → c.if-not-comes_again.found ≡ c.loop-j.found + one (not c.comes_again.result)
found-more c =
    elim c.if-not-comes_again.branch [
      | then-not-comes_again w ↦ rw w.if-not-comes_again.true w.found-is
      | else-not-comes_again w ↦ rw w.if-not-comes_again.false (omega (arith, w.found-is))
    ]

pub loop-j-init : goal.loop-j-init
loop-j-init c = (omega arith, λ plans each kept. omega arith)

pub comes_again-requires : goal.comes_again-requires
comes_again-requires c = (omega arith, c.requires.0, c.requires.1)

pub loop-j-preserved : goal.loop-j-preserved
loop-j-preserved c = (
  omega (arith, found-more c, one_at_most (not c.comes_again.result)),
  λ plans each kept.
      let next = rw (← c.comes_again.ensures plans each kept) at (different-next plans c.loop-j.j (omega arith)) in
      omega (arith, found-more c, next, c.loop-j.invariant.1 plans each kept),
)

pub returns : goal.returns
returns c =
    record { upper_bound = omega arith; by_index = λ plans each kept. omega (arith, different_none plans c.loop-j.j (omega arith), c.loop-j.invariant.1 plans each kept) }
