-- What holds at each turn of `repeats::first_repeat`: the marks tell what the actions before the entry set, none of those repeats, and the entry's action stands behind them.
-- Assumes nothing.
use mathlib.Core.List.{List}
use Prim.Native.Nat.{◌*◌}
use Rattle.study.specs.Study.{Condition}
use Rattle.spelling.specs.Lent.{actions_in}
use Rattle.repeats.specs.Repeats.{Small, place_of}
use Rattle.repeats.proofs.Looking.{Looked}
use Rattle.repeats.proofs.first_repeat.Given as goal

abbrev pub invariant-loop-k : goal.invariant-loop-k
invariant-loop-k l =
    (conditions : List Condition) → Small (actions_in l.actions conditions)
    → Looked l.situation l.front l.actions (actions_in l.actions conditions) l.marks (place_of l.front l.entries l.k) (5 * l.k)
