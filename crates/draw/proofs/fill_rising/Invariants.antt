-- What holds at each turn of `draw::fill_rising`.
-- Assumes nothing.
use mathlib.Core.Path.{◌≡◌}
use mathlib.Core.List.{◌++◌}
use lib.ListN.{drop}
use Rattle.ranks.specs.Ranks.{rising}
use Rattle.draw.proofs.fill_rising.Given as goal

abbrev pub invariant-loop-i : goal.invariant-loop-i
invariant-loop-i l = l.rank-items ≡ rising l.i ++ drop l.i l.initial.rank-items
