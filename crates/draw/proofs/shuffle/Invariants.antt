-- What holds at each turn of `draw::shuffle`: shuffling what is left, from the last number, gives what shuffling all from the seed does.
-- Assumes nothing.
use mathlib.Core.Path.{◌≡◌}
use Prim.Native.Nat.{◌-◌}
use Rattle.draw.specs.Draw.{number_after, shuffled}
use Rattle.draw.proofs.shuffle.Given as goal

abbrev pub invariant-loop-i : goal.invariant-loop-i
invariant-loop-i l = record {
  number : number_after (l.i - 1) l.last ≡ number_after (l.count - 1) l.seed;
  list : shuffled (l.i - 1) l.last l.ranks ≡ shuffled (l.count - 1) l.seed l.initial.ranks;
}
